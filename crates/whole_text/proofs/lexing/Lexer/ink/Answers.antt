use Rattle.whole_text.proofs.Common.{◌≡◌, ◌+◌, ◌∷◌, ◌++◌, [], ℕ, drop, sym, ap, ◌∙◌, At, Between, Inside, LexerState, place_at, begun}
use Rattle.whole_text.proofs.LexerFields.{stands_on, ink_pushed, ink_between}
use Rattle.whole_text.proofs.lexing.Lexer.ink.Goals as goal

-- the state with one byte more in its word
abbrev pushed : LexerState → ℕ → LexerState
pushed s byte = record s { place = Inside (begun s.place ++ byte ∷ []); size = s.size + 1 }

pub returns-in-Between-clause-stepped : goal.returns-in-Between-clause-stepped
returns-in-Between-clause-stepped c =
    let w = drop c.self.inside.start c.self.inside.bytes.items in
    let byte = c.args.byte in
    let now = c.args.self.now in
    let here : now.place ≡ Between = sym (ap (λ (s : LexerState). s.place) c.self.view_is) ∙ ap (λ (a : At). place_at a w) c.in-Between.is in
    stands_on _ now c.push.new.self (pushed now byte) byte c.push.ensures.pushed (λ text h. ink_pushed now text byte (ink_between now byte here) c.requires.no_feed c.requires.no_blank h)
