use Rattle.monomial_layer.proofs.Common.{nat_tests, arith}
use Rattle.monomial_layer.proofs.Weights.{product_fits, product_is}
use Rattle.monomial_layer.proofs.nodes.node_weight.Goals as goal

pub overflow_mul-result : goal.overflow_mul-result
overflow_mul-result c = grind (arith, nat_tests, product_fits)

pub returns : goal.returns
returns c = grind (arith, nat_tests, product_is)
