use Rattle.quad_form.proofs.Common.{nat_tests, arith, to_z-of_z}
use Rattle.quad_form.proofs.HeldSums.{gain-both}
use Rattle.quad_form.proofs.short.move_weights.Goals as goal

pub returns : goal.returns
returns c = grind (arith, nat_tests, to_z-of_z, gain-both)
