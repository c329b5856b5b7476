use Rattle.penalty_layer.proofs.Common.{arith, nat_tests, length-zip_with}
use Rattle.penalty_layer.proofs.parts.Parts.len.Goals as goal

pub returns : goal.returns
returns c = grind (arith, nat_tests, length-zip_with)
