use Rattle.pair_sums.proofs.Common.{nat_tests, arith, length-map, slice_get-map, slice_get_read}
use Rattle.pair_sums.proofs.listed.ListedPairs.at.Goals as goal

pub returns : goal.returns
returns c = grind (arith, nat_tests, length-map, slice_get-map, slice_get_read)
