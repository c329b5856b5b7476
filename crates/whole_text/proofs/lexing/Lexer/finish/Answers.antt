use Rattle.whole_text.proofs.Common.{sym, ap, ◌∙◌, LexerState}
use Rattle.whole_text.proofs.LexerSteps.{stands_end}
use Rattle.whole_text.proofs.lexing.Lexer.finish.Goals as goal

pub returns-clause-words : goal.returns-clause-words
returns-clause-words c =
    let same = c.self.view_is ∙ c.in_ok-end_word.ensures.ended in
    λ text h. rw c.new.ensures (ap (λ (s : LexerState). s.words) same ∙ sym (stands_end c.args.self text h))
