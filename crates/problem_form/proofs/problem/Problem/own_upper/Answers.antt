use Rattle.problem_form.proofs.Lemmas.{nat_tests, ap, arith, ints, positive_total, positive_total-le}
use Rattle.problem_form.proofs.problem.Problem.own_upper.Goals as goal

pub positive_coefficients-requires : goal.positive_coefficients-requires
positive_coefficients-requires c =
    let products = c.self.inside.objective in
    omega (arith, ap positive_total c.iter.ensures, positive_total-le products, c.self.invariant.1)

pub overflow_add-most : goal.overflow_add-most
overflow_add-most c = grind (arith, nat_tests, ints, positive_total-le)

pub overflow_cast-result : goal.overflow_cast-result
overflow_cast-result c = grind (arith, nat_tests, ints, positive_total-le)

pub overflow_add-result : goal.overflow_add-result
overflow_add-result c = grind (arith, nat_tests, ints, positive_total-le)

pub returns-clause-value : goal.returns-clause-value
returns-clause-value c = grind (arith, nat_tests, ints, positive_total-le)

pub returns-clause-small : goal.returns-clause-small
returns-clause-small c = grind (arith, nat_tests, ints, positive_total-le)
