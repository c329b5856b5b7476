use Rattle.form_steps.proofs.Common.{IfOk-weaker, Reaches-trans}
use Rattle.form_steps.proofs.then.ThenLayer.extend.Goals as goal

pub returns-clause-extension : goal.returns-clause-extension
returns-clause-extension g c =
    IfOk-weaker c.extend-2.result _ _
    (λ y e. rw (c.requires.fits.1, c.deref.ensures.value, c.in_ok-middle.ensures.extension) at e)
    c.extend-2.ensures.extension

pub returns-clause-reaches : goal.returns-clause-reaches
returns-clause-reaches g c =
    IfOk-weaker c.extend-2.result _ _
    (λ y r. Reaches-trans _ _ _ _ _ c.in_ok-middle.ensures.reaches (rw (c.requires.fits.1, c.deref.ensures.value) at r))
    c.extend-2.ensures.reaches
