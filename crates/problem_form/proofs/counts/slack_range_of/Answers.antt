use Rattle.problem_form.proofs.Lemmas.{nat_tests, arith, ap, ◌∙◌, ints, Constraint, positive_total, positive_total-le}
use Rattle.problem_form.proofs.counts.slack_range_of.Goals as goal

pub positive_coefficients-most-requires : goal.positive_coefficients-most-requires
positive_coefficients-most-requires c =
    let products = c.again.ensures ∙ ap (λ (k : Constraint). k.products) c.constraint.view_is in
    omega (arith, ap positive_total products, positive_total-le c.args.constraint.now.products)

pub overflow_cast-most : goal.overflow_cast-most
overflow_cast-most c = grind (arith, nat_tests, ints, positive_total-le)

pub overflow_sub-most : goal.overflow_sub-most
overflow_sub-most c = grind (arith, nat_tests, ints, positive_total-le)

pub returns : goal.returns
returns c = grind (arith, nat_tests, ints, positive_total-le)
