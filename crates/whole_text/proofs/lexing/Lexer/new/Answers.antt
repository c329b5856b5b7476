use Rattle.whole_text.proofs.LexerSteps.{stands_empty}
use Rattle.whole_text.proofs.lexing.Lexer.new.Goals as goal

pub returns-clause-empty : goal.returns-clause-empty
returns-clause-empty c = rw (c.new.ensures.items, c.new-2.ensures) (stands_empty c.args.style)
