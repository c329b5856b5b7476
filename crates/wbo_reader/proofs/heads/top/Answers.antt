use Rattle.wbo_reader.proofs.Common.{sym, word_of}
use Rattle.wbo_reader.proofs.LeastNumbers.{natural_least, not_zero}
use Rattle.wbo_reader.proofs.heads.top.Goals as goal

pub returns-clause-some : goal.returns-clause-some
returns-clause-some c =
    let top = c.in_ok-top.top in
    not_zero top (natural_least 1 top (word_of c.in_ok-word.word) (sym c.in_ok-top.ensures))
