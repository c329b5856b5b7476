use Rattle.pair_sums.proofs.Common.{nat_tests, arith}
use Rattle.pair_sums.proofs.SummedPairs.{append_summed}
use Rattle.pair_sums.proofs.pairs.Pairs.put_into.Goals as goal

pub returns-clause-put : goal.returns-clause-put
returns-clause-put c = grind (arith, nat_tests, append_summed)
