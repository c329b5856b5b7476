use Rattle.quadratization.proofs.Common.{nat_tests, arith, to_z-of_z}
use Rattle.quadratization.proofs.rows.add_place.Goals as goal

pub returns : goal.returns
returns c = grind (arith, nat_tests, to_z-of_z)
