use Rattle.problem_form.proofs.Common.{ints, nat_tests, arith, fold-map}
use Rattle.problem_form.proofs.counts.positive_coefficients.Goals as goal

pub sum_of_positive-requires : goal.sum_of_positive-requires
sum_of_positive-requires c = grind (arith, nat_tests, ints, fold-map)

pub returns : goal.returns
returns c = grind (arith, nat_tests, ints, fold-map)
