use Rattle.local_penalties.proofs.Common.{arith, nat_tests, ints, positive_total-le}
use Rattle.local_penalties.proofs.local.above_of.Goals as goal

pub positive_coefficients-most-requires : goal.positive_coefficients-most-requires
positive_coefficients-most-requires c =
    omega (arith, positive_total-le c.args.products, c.requires.small)

pub overflow_cast-most : goal.overflow_cast-most
overflow_cast-most c = grind (arith, nat_tests, ints, positive_total-le)

pub overflow_sub-most : goal.overflow_sub-most
overflow_sub-most c = grind (arith, nat_tests, ints, positive_total-le)

pub returns : goal.returns
returns c = grind (arith, nat_tests, ints, positive_total-le)
