use Rattle.local_penalties.proofs.Common.{◌∙◌, sym}
use Rattle.local_penalties.proofs.LocalSteps.{size-step, size-none}
use Rattle.local_penalties.proofs.equations.have_size.Goals as goal

pub loop-product-preserved : goal.loop-product-preserved
loop-product-preserved c =
    size-step c.args.size c.in-Some.product _ _ _ c.in-Some.ensures.steps
    (sym c.if-not-has_size.false ∙ c.has_size.ensures) c.loop-product.invariant

pub returns-then-not-has_size : goal.returns-then-not-has_size
returns-then-not-has_size c =
    size-none c.args.size c.in-Some.product _ _ _ c.in-Some.ensures.steps
    (sym c.if-not-has_size.true ∙ c.has_size.ensures) c.loop-product.invariant
