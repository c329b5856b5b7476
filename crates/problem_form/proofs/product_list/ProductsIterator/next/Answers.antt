use Rattle.problem_form.proofs.Common.{nat_tests, arith, slice_range-step}
use Rattle.problem_form.proofs.product_list.ProductsIterator.next.Goals as goal

pub returns-clause-steps : goal.returns-clause-steps
returns-clause-steps c = grind (arith, nat_tests, slice_range-step)
