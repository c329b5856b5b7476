use Rattle.local_penalties.proofs.Common.{◌++◌, ◌∙◌, ap, map, Literal, Product}
use Rattle.local_penalties.proofs.LocalSteps.{products-step}
use Rattle.local_penalties.proofs.equations.put_variables.Goals as goal

pub loop-product-preserved : goal.loop-product-preserved
loop-product-preserved c =
    let added = c.in_ok-add_variables.ensures
    ∙ ap (λ (t : Product). c.loop-product.buffer.items ++ map (λ (l : Literal). l.variable) t.literals) c.product.view_is in
    products-step c.in-Some.product _ _ _ _ _ c.in-Some.ensures.steps added c.loop-product.invariant
