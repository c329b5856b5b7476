use Rattle.model_pipeline.proofs.Common.{length, ap, arith, ints, Figures, IsingContent, coupled, length-fields}
use Rattle.model_pipeline.proofs.written.form_model.Goals as goal

pub chained_model-requires-clause-kind : goal.chained_model-requires-clause-kind
chained_model-requires-clause-kind c =
    let q = c.args.form.target in
    let fields = ap (λ (f : IsingContent). length f.fields) c.in_ok-spins-in-Ising.ensures.image in
    (c.empty-chains.ensures, omega (arith, fields, length-fields (coupled q.couplers) 0 q.diagonal, c.requires.enough))

pub chained_model-requires-clause-offset : goal.chained_model-requires-clause-offset
chained_model-requires-clause-offset c =
    let offset = ap (λ (n : Figures). n.offset) c.in_ok-spins-in-Ising.ensures.figures in
    omega (arith, ints, offset, c.requires.figures.small.offset)

pub chained_model-requires-clause-threshold : goal.chained_model-requires-clause-threshold
chained_model-requires-clause-threshold c =
    let threshold = ap (λ (n : Figures). n.threshold) c.in_ok-spins-in-Ising.ensures.figures in
    omega (arith, ints, threshold, c.requires.figures.small.threshold)
