use Rattle.pair_sums.proofs.Common.{nat_tests, arith, length-map, slice_get-map, slice_get_read}
use Rattle.pair_sums.proofs.pairs.coupler_at.Goals as goal

pub returns-in-Packed : goal.returns-in-Packed
returns-in-Packed c = grind (arith, nat_tests, length-map, slice_get-map, slice_get_read)
