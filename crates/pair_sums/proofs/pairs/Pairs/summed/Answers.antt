use Rattle.pair_sums.proofs.Common.{nat_tests, arith}
use Rattle.pair_sums.proofs.pairs.Pairs.summed.Goals as goal

pub returns : goal.returns
returns c = grind (arith, nat_tests)
