use Rattle.form_steps.proofs.Common.{subst, IfOk-weaker, least-trans}
use Rattle.form_steps.proofs.then.ThenGuard.extend.Goals as goal

pub returns-clause-extension : goal.returns-clause-extension
returns-clause-extension g c =
    IfOk-weaker c.extend-2.result _ _
    (λ y e. rw (c.requires.fits.1, c.deref.ensures.value, c.in_ok-middle.ensures.extension) at e)
    c.extend-2.ensures.extension

pub returns-clause-least : goal.returns-clause-least
returns-clause-least g c =
    let link = c.args.link.now in
    let s = c.args.source.now in
    let fit = c.requires.fits in
    IfOk-weaker c.extend-2.result _ _
    (λ y r. least-trans (g.met.B.Layer.keeps link.second (g.A.Guard.image s) (subst (λ m. g.B.Layer.fits link.second m) fit.1 fit.2)) c.in_ok-middle.ensures.least (rw (fit.1, c.deref.ensures.value) at r))
    c.extend-2.ensures.reaches
