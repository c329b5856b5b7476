use Rattle.chain_layer.proofs.Common.{ap, ◌∙◌, IfOk-weaker, image, offset}
use Rattle.chain_layer.proofs.chains.ChainsLayer.lower.Goals as goal

pub returns-clause-image : goal.returns-clause-image
returns-clause-image c =
    IfOk-weaker c.lower_owned.result _ _ (λ made same. same ∙ ap image c.in_ok-copied.ensures) c.lower_owned.ensures.image

pub returns-clause-offset : goal.returns-clause-offset
returns-clause-offset c =
    IfOk-weaker c.lower_owned.result _ _ (λ made same. same ∙ ap offset c.in_ok-copied.ensures) c.lower_owned.ensures.offset
