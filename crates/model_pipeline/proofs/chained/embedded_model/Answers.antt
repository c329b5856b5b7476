use Rattle.model_pipeline.proofs.Common.{◌<◌, ◌^◌, pos, ◌∙◌, ap, arith, rules, subst, sym, unsigned_abs, w128, ints, to_z-of_z, IfOk-weaker, Figures, figures_after, chained_model}
use Rattle.bits_model.specs.declared.output.Kind.TheVariants.{Qubits}
use Rattle.model_pipeline.proofs.LeastStates.{if_ok-always}
use Rattle.model_pipeline.proofs.QubitModels.{tied_figure, tied_fits}
use Rattle.model_pipeline.proofs.Tied.{tied_fits_output}
use Rattle.model_pipeline.proofs.chained.embedded_model.Goals as goal

pub after-requires-clause-sum : goal.after-requires-clause-sum
after-requires-clause-sum c =
    let made = c.in_ok-target.ensures in
    tied_fits c.args.ties c.args.embedded c.args.figures.offset _ made.kept c.requires.total
    c.requires.offset (to_z-of_z w128 c.in_ok-target.offset (search rules) ∙ made.offset)

pub after-requires-clause-sum_2 : goal.after-requires-clause-sum_2
after-requires-clause-sum_2 c =
    let made = c.in_ok-target.ensures in
    tied_fits c.args.ties c.args.embedded c.args.figures.threshold _ made.kept c.requires.total
    c.requires.threshold (to_z-of_z w128 c.in_ok-target.offset (search rules) ∙ made.offset)

pub chained_model-requires-clause-kind : goal.chained_model-requires-clause-kind
chained_model-requires-clause-kind c =
    let e = c.args.embedded in
    let graph = c.args.graph in
    let made = c.in_ok-target.ensures in
    let kept = made.kept in
    rw (made.chains, made.form)
    (tied_fits_output e kept c.args.ties graph c.args.own
    c.requires.qubits (omega (arith, kept.counted, c.requires.own)))

pub chained_model-requires-clause-scale : goal.chained_model-requires-clause-scale
chained_model-requires-clause-scale c =
    omega (arith, ints, ap (λ (n : Figures). n.scale) c.after.ensures, c.requires.scale)

pub chained_model-requires-clause-offset : goal.chained_model-requires-clause-offset
chained_model-requires-clause-offset c =
    let made = c.in_ok-target.ensures in
    subst (λ (r : Figures). unsigned_abs r.offset < 2 ^ 124) (sym c.after.ensures)
    (tied_figure c.args.ties c.args.embedded c.args.figures.offset _ made.kept c.requires.total
    c.requires.offset (to_z-of_z w128 c.in_ok-target.offset (search rules) ∙ made.offset))

pub chained_model-requires-clause-threshold : goal.chained_model-requires-clause-threshold
chained_model-requires-clause-threshold c =
    let made = c.in_ok-target.ensures in
    subst (λ (r : Figures). unsigned_abs r.threshold < 2 ^ 124) (sym c.after.ensures)
    (tied_figure c.args.ties c.args.embedded c.args.figures.threshold _ made.kept c.requires.total
    c.requires.threshold (to_z-of_z w128 c.in_ok-target.offset (search rules) ∙ made.offset))

pub returns-clause-kept : goal.returns-clause-kept
returns-clause-kept c = if_ok-always c.chained_model.result (λ m. c.in_ok-target.ensures.kept)

pub returns-clause-model : goal.returns-clause-model
returns-clause-model c =
    let made = c.in_ok-target.ensures in
    let tied = to_z-of_z w128 c.in_ok-target.offset (search rules) ∙ made.offset in
    let figures = c.after.ensures ∙ (λ i. figures_after c.args.figures (pos 1) (tied i)) in
    IfOk-weaker c.chained_model.result _ _ (λ m same. same
    ∙ (λ i. chained_model c.args.unit (made.form i) c.args.own (figures i) (Qubits c.args.graph) (made.chains i)))
    c.chained_model.ensures
