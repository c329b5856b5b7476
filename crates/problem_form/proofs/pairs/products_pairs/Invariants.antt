use Rattle.problem_form.proofs.Lemmas.{sum_by, product_pairs, Answered}
use Rattle.problem_form.proofs.pairs.products_pairs.Given as goal

-- the pairs so far and those of the products that are left are the whole
abbrev pub invariant-loop-product : goal.invariant-loop-product
invariant-loop-product l =
    Answered (product_pairs l.normal) l.total l.product-iterator (sum_by (product_pairs l.normal) l.products)
