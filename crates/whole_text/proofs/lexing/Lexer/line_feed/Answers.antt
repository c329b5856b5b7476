use Rattle.whole_text.proofs.Common.{◌+◌, ◌∷◌, ◌++◌, [], sym, subst, ◌∙◌, refl, Fresh, LexerState, StandsFor}
use Rattle.whole_text.proofs.LexerSteps.{stands_feed}
use Rattle.whole_text.proofs.lexing.Lexer.line_feed.Goals as goal

pub returns-clause-stepped : goal.returns-clause-stepped
returns-clause-stepped c =
    let same = c.self.view_is ∙ c.in_ok-end_word.ensures.ended in
    λ text h. subst (λ (s : LexerState). StandsFor (record s { place = Fresh; line = s.line + 1 }) (text ++ 10 ∷ [])) (sym same) (stands_feed c.args.self.now text 10 refl h)
