use Rattle.monomial_layer.proofs.Common.{nat_tests, arith, w128, to_z-of_z}
use Rattle.monomial_layer.proofs.replace.add_replaced.Goals as goal

pub returns-then-literals-le2 : goal.returns-then-literals-le2
returns-then-literals-le2 g c =
    grind (arith, nat_tests, to_z-of_z w128 c.args.coefficient c.ranges.coefficient)
