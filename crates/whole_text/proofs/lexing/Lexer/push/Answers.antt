use Rattle.whole_text.proofs.Common.{nat_tests, arith, drop-append-le, length-append}
use Rattle.whole_text.proofs.LexerFields.{words_kept, starts_within, begun_held}
use Rattle.whole_text.proofs.lexing.Lexer.push.Goals as goal

pub returns-clause-pushed : goal.returns-clause-pushed
returns-clause-pushed c =
    grind (arith, nat_tests, starts_within, words_kept, drop-append-le, begun_held, length-append)
