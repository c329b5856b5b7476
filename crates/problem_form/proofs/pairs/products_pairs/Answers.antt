use Rattle.problem_form.proofs.Lemmas.{arith, nat_tests, answered_left, answered_end}
use Rattle.problem_form.specs.Limits.{product_pairs}
use Rattle.problem_form.proofs.pairs.products_pairs.Goals as goal

pub loop-product-preserved : goal.loop-product-preserved
loop-product-preserved c =
    answered_left (product_pairs c.args.normal) _ _ _ _ _ _ _ c.in-Some.ensures.steps
    c.product_pairs_of.ensures c.saturating_add-total.ensures c.loop-product.invariant

pub returns : goal.returns
returns c = grind (arith, nat_tests, answered_end)
