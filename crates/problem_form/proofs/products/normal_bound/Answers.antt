use Rattle.problem_form.proofs.Lemmas.{arith, ints, kept_products-size}
use Rattle.problem_form.proofs.products.normal_bound.Goals as goal

pub overflow_sub-result : goal.overflow_sub-result
overflow_sub-result c =
    omega (arith, ints, c.constants_of.ensures, kept_products-size c.args.constraint.now.products)

pub returns : goal.returns
returns c =
    omega (arith, ints, c.constants_of.ensures, kept_products-size c.args.constraint.now.products)
