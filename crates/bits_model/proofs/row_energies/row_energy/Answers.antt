use Rattle.bits_model.proofs.Common.{arith, nat_tests, to_z-of_z}
use Rattle.bits_model.proofs.RowEnergies.{row_of_one, row_of_zero}
use Rattle.bits_model.proofs.row_energies.row_energy.Goals as goal

pub returns-then-bit_at : goal.returns-then-bit_at
returns-then-bit_at c = grind (arith, nat_tests, to_z-of_z, row_of_one)

pub returns-else-bit_at : goal.returns-else-bit_at
returns-else-bit_at c = grind (arith, nat_tests, row_of_zero)
