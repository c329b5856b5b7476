use Rattle.penalty_layer.proofs.Common.{ints, nat_tests, arith, length-zip_with, zip_with-at}
use Rattle.penalty_layer.proofs.parts.Parts.at.Goals as goal

pub list-requires : goal.list-requires
list-requires c = grind (arith, nat_tests, length-zip_with)

pub index-requires : goal.index-requires
index-requires c = grind (arith, nat_tests, length-zip_with)

pub returns : goal.returns
returns c = grind (arith, nat_tests, ints, length-zip_with, zip_with-at)
