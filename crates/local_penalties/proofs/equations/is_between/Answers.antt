use Rattle.local_penalties.proofs.Common.{ap, arith, nat_tests, ints, positive_total-le, negative_total}
use Rattle.local_penalties.proofs.LocalSteps.{negative_total-le}
use Rattle.local_penalties.proofs.equations.is_between.Goals as goal

pub negative_coefficients-requires : goal.negative_coefficients-requires
negative_coefficients-requires c =
    let same = ap negative_total c.again.ensures in
    omega (arith, same, negative_total-le c.args.products, c.requires.small)

pub overflow_cast-least : goal.overflow_cast-least
overflow_cast-least c =
    let same = ap negative_total c.again.ensures in
    omega (arith, ints, same, negative_total-le)

pub overflow_sub-least : goal.overflow_sub-least
overflow_sub-least c =
    let same = ap negative_total c.again.ensures in
    omega (arith, ints, same, negative_total-le)

pub positive_coefficients-most-requires : goal.positive_coefficients-most-requires
positive_coefficients-most-requires c =
    omega (arith, positive_total-le c.args.products, c.requires.small)

pub overflow_cast-most : goal.overflow_cast-most
overflow_cast-most c = omega (arith, ints, positive_total-le)

pub returns-then-least-bound : goal.returns-then-least-bound
returns-then-least-bound c =
    let same = ap negative_total c.again.ensures in
    grind (arith, nat_tests, ints, same, positive_total-le, negative_total-le)

pub returns-else-least-bound : goal.returns-else-least-bound
returns-else-least-bound c =
    let same = ap negative_total c.again.ensures in
    grind (arith, nat_tests, ints, same, positive_total-le, negative_total-le)
