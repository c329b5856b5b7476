use Rattle.cut_chains.proofs.Common.{ap, ◌∙◌, IfOk-weaker, cut_image, cut_offset}
use Rattle.cut_chains.proofs.cut_chains.CutChains.lower.Goals as goal

pub returns-clause-image : goal.returns-clause-image
returns-clause-image c =
    IfOk-weaker c.lower_owned.result _ _ (λ made same. same ∙ ap cut_image c.in_ok-copied.ensures) c.lower_owned.ensures.image

pub returns-clause-offset : goal.returns-clause-offset
returns-clause-offset c =
    IfOk-weaker c.lower_owned.result _ _ (λ made same. same ∙ ap cut_offset c.in_ok-copied.ensures) c.lower_owned.ensures.offset
