use Rattle.problem_form.proofs.Lemmas.{unsigned_abs, Product, product_value, products_total, sum_of, Sums}
use Rattle.problem_form.proofs.costs.sum_of_products.Given as goal

-- the sum so far and that of the products that are left are the whole
abbrev pub invariant-loop-product : goal.invariant-loop-product
invariant-loop-product l =
    Sums (product_value l.x) (λ (t : Product). unsigned_abs t.coefficient) l.sum
    l.product-iterator (sum_of l.x l.fn.products) (products_total l.fn.products)
