use Rattle.problem_form.proofs.Lemmas.{unsigned_abs, Product, product_value, product-size, sums_left}
use Rattle.problem_form.proofs.costs.sum_of_products.Goals as goal

pub loop-product-preserved : goal.loop-product-preserved
loop-product-preserved c =
    sums_left (product_value _) (λ (t : Product). unsigned_abs t.coefficient) _ _ c.in-Some.product _ _ _ _
    c.in-Some.ensures.steps c.value_of-sum.ensures (product-size _ c.in-Some.product) c.requires c.loop-product.invariant
