use Rattle.pair_sums.proofs.Common.{nat_tests, arith, get_or_from_slice_get}
use Rattle.pair_sums.proofs.pairs.Pairs.at.Goals as goal

pub returns-clause-value : goal.returns-clause-value
returns-clause-value c = grind (arith, nat_tests, get_or_from_slice_get)
