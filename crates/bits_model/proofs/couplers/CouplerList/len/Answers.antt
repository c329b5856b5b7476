use Rattle.bits_model.proofs.Common.{arith, nat_tests}
use Rattle.bits_model.proofs.Packed.{length-packed}
use Rattle.bits_model.proofs.couplers.CouplerList.len.Goals as goal

pub returns : goal.returns
returns c = grind (arith, nat_tests, length-packed)
