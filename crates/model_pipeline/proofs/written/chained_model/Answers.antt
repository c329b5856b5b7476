use Rattle.model_pipeline.proofs.Common.{◌∙◌, ap, rules, w128, to_z-of_z, IfOk-weaker, figures_moved, written_of}
use Rattle.model_pipeline.proofs.Tied.{reduced_fits}
use Rattle.model_pipeline.proofs.written.chained_model.Goals as goal
use Rattle.model_pipeline.proofs.FormModels.{moved_fits, moved_low}

pub moved-figures-requires-clause-offset : goal.moved-figures-requires-clause-offset
moved-figures-requires-clause-offset c = moved_fits _ c.in_ok-made-in-Reduce.made.offset c.requires.offset (search rules)

pub moved-figures-requires-clause-threshold : goal.moved-figures-requires-clause-threshold
moved-figures-requires-clause-threshold c = moved_fits _ c.in_ok-made-in-Reduce.made.offset c.requires.threshold (search rules)

pub output-requires-in-Reduce-clause-kind : goal.output-requires-in-Reduce-clause-kind
output-requires-in-Reduce-clause-kind c =
    rw c.in_ok-made-in-Reduce.ensures.target (reduced_fits _ _ _ _ c.requires.kind)

pub returns-in_ok-made-in-Reduce : goal.returns-in_ok-made-in-Reduce
returns-in_ok-made-in-Reduce c =
    let made = c.in_ok-made-in-Reduce.ensures in
    let unit = to_z-of_z w128 c.in_ok-made-in-Reduce.made.unit (search rules) ∙ made.unit in
    let back = to_z-of_z w128 c.in_ok-made-in-Reduce.made.offset (search rules) in
    let figures = c.moved-figures.ensures ∙ ap (λ b. figures_moved c.args.form.figures b) (back ∙ made.offset) in
    rw c.in-Reduce.is (IfOk-weaker c.output-in-Reduce.result _ _ (λ m same. same
    ∙ (λ i. written_of (made.target i) c.args.variables (figures i) (unit i) c.args.kind c.args.chains))
    c.output-in-Reduce.ensures)

pub output-requires-in-Reduce-clause-offset : goal.output-requires-in-Reduce-clause-offset
output-requires-in-Reduce-clause-offset c =
    rw c.moved-figures.ensures (moved_low _ c.in_ok-made-in-Reduce.made.offset c.requires.offset (search rules))

pub output-requires-in-Reduce-clause-threshold : goal.output-requires-in-Reduce-clause-threshold
output-requires-in-Reduce-clause-threshold c =
    rw c.moved-figures.ensures (moved_low _ c.in_ok-made-in-Reduce.made.offset c.requires.threshold (search rules))
