use Rattle.problem_form.proofs.Lemmas.{unsigned_abs, total_by, Product, product_constant, products_total, Sums}
use Rattle.problem_form.proofs.products.constants_of.Given as goal

-- the constants so far and those of the products that are left are the whole
abbrev pub invariant-loop-product : goal.invariant-loop-product
invariant-loop-product l =
    Sums product_constant (λ (t : Product). unsigned_abs t.coefficient) l.sum
    l.product-iterator (total_by product_constant l.products) (products_total l.products)
