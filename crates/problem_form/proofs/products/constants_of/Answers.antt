use Rattle.problem_form.proofs.Lemmas.{unsigned_abs, Product, product_constant, constant-size, sums_left}
use Rattle.problem_form.proofs.products.constants_of.Goals as goal

pub loop-product-preserved : goal.loop-product-preserved
loop-product-preserved c =
    sums_left product_constant (λ (t : Product). unsigned_abs t.coefficient) _ _ c.in-Some.product _ _ _ _
    c.in-Some.ensures.steps c.product_constant-sum.ensures (constant-size c.in-Some.product) c.requires
    c.loop-product.invariant
