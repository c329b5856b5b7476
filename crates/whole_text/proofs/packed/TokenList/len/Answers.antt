use Rattle.whole_text.proofs.Common.{nat_tests, arith}
use Rattle.whole_text.proofs.Strides.{length-placed, length-strides}
use Rattle.whole_text.proofs.packed.TokenList.len.Goals as goal

pub returns : goal.returns
returns c = grind (arith, nat_tests, length-placed, length-strides)
