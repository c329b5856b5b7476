use Rattle.conflict_clauses.proofs.Common.{arith, nat_tests, ints}
use Rattle.conflict_clauses.proofs.Giving.{negative_total-le}
use Rattle.conflict_clauses.proofs.covers.above_least.Goals as goal

pub negative_coefficients-least-requires : goal.negative_coefficients-least-requires
negative_coefficients-least-requires c =
    omega (arith, negative_total-le c.args.products, c.requires.small)

pub overflow_cast-least : goal.overflow_cast-least
overflow_cast-least c = grind (arith, nat_tests, ints, negative_total-le)

pub overflow_add-bound : goal.overflow_add-bound
overflow_add-bound c = grind (arith, nat_tests, ints, negative_total-le)

pub returns : goal.returns
returns c = grind (arith, nat_tests, ints, negative_total-le)
