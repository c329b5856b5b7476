use Rattle.pair_sums.proofs.Common.{ints, nat_tests, arith, rules, w128, to_z-of_z}
use Rattle.pair_sums.proofs.shape.packed.Goals as goal

pub returns : goal.returns
returns c =
    grind (arith, nat_tests, ints, to_z-of_z w128 c.args.weight (search rules), c.coded.ensures.pair c.args.weight)
