use Rattle.model_pipeline.proofs.Common.{sym, ap, ◌∙◌, rules, w128, to_z-of_z, ChainStrength, offset_tied}
use Rattle.model_pipeline.proofs.chained.tied.Goals as goal

pub returns-in_ok-made-in-Choi-clause-offset : goal.returns-in_ok-made-in-Choi-clause-offset
returns-in_ok-made-in-Choi-clause-offset c =
    to_z-of_z w128 c.in_ok-made-in-Choi.made.offset (search rules)
    ∙ c.in_ok-made-in-Choi.ensures.offset
    ∙ ap (λ (ties : ChainStrength). offset_tied ties c.args.embedded) (sym c.in-Choi.is)

pub returns-in_ok-made-in-Cut-clause-offset : goal.returns-in_ok-made-in-Cut-clause-offset
returns-in_ok-made-in-Cut-clause-offset c =
    to_z-of_z w128 c.in_ok-made-in-Cut.made.offset (search rules)
    ∙ c.in_ok-made-in-Cut.ensures.offset
    ∙ ap (λ (ties : ChainStrength). offset_tied ties c.args.embedded) (sym c.in-Cut.is)
