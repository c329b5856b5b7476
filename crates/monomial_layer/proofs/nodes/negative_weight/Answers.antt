use Rattle.monomial_layer.proofs.Common.{nat_tests, arith, refl, pos, ◌-◌, rules}
use Rattle.monomial_layer.proofs.Weights.{product_fits, negated_is}
use Rattle.monomial_layer.proofs.nodes.negative_weight.Goals as goal

pub overflow_mul-result : goal.overflow_mul-result
overflow_mul-result c = grind (arith, nat_tests, product_fits)

pub returns : goal.returns
returns c =
    negated_is c.args.coefficient.now (pos (c.args.degree - 1)) _ (search rules) (search rules) refl
    c.requires.small
