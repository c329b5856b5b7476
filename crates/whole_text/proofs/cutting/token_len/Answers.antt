use Rattle.whole_text.proofs.Common.{nat_tests, arith}
use Rattle.whole_text.proofs.Pieces.{plain_first}
use Rattle.whole_text.proofs.cutting.token_len.Goals as goal

pub returns-in-Plain-clause-cut : goal.returns-in-Plain-clause-cut
returns-in-Plain-clause-cut c = grind (arith, nat_tests, plain_first)
