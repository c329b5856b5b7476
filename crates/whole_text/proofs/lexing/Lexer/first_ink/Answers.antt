use Rattle.whole_text.proofs.Common.{◌≡◌, ◌+◌, ◌∷◌, ◌++◌, [], ℕ, drop, sym, ap, subst, ◌∙◌, eqb, false, ne_eqb, comment_byte, At, Fresh, Between, Inside, Comment, LexerState, StandsFor, place_at, begun}
use Rattle.whole_text.proofs.LexerFields.{stands_on, ink_comment, ink_begins, ink_pushed, ink_fresh, ink_between}
use Rattle.whole_text.proofs.lexing.Lexer.first_ink.Goals as goal

-- the state with one byte more in its word
abbrev pushed : LexerState → ℕ → LexerState
pushed s byte = record s { place = Inside (begun s.place ++ byte ∷ []); size = s.size + 1 }

pub returns-in-Comment-clause-stepped : goal.returns-in-Comment-clause-stepped
returns-in-Comment-clause-stepped c =
    let w = drop c.self.inside.start c.self.inside.bytes.items in
    let here : c.args.self.now.place ≡ Comment = sym (ap (λ (s : LexerState). s.place) c.self.view_is) ∙ ap (λ (a : At). place_at a w) c.in-Comment.is in
    λ text h. ink_comment c.args.self.now text c.args.byte here c.requires.no_feed c.requires.no_blank h

pub returns-then-byte-comment_byte-clause-stepped : goal.returns-then-byte-comment_byte-clause-stepped
returns-then-byte-comment_byte-clause-stepped c =
    let w = drop c.self.inside.start c.self.inside.bytes.items in
    let byte = c.args.byte in
    let now = c.args.self.now in
    let here : now.place ≡ Fresh = sym (ap (λ (s : LexerState). s.place) c.self.view_is) ∙ ap (λ (a : At). place_at a w) c.in-Fresh.is in
    let mark : byte ≡ comment_byte now.style = c.if-byte-comment_byte.true ∙ c.comment_byte.ensures ∙ ap (λ (s : LexerState). comment_byte s.style) c.self.view_is in
    λ text h. subst (λ (s : LexerState). StandsFor (record s { place = Comment }) (text ++ byte ∷ [])) (sym c.self.view_is) (ink_begins now text byte here mark c.requires.no_feed c.requires.no_blank h)

pub returns-else-byte-comment_byte-clause-stepped : goal.returns-else-byte-comment_byte-clause-stepped
returns-else-byte-comment_byte-clause-stepped c =
    let w = drop c.self.inside.start c.self.inside.bytes.items in
    let byte = c.args.byte in
    let now = c.args.self.now in
    let here : now.place ≡ Fresh = sym (ap (λ (s : LexerState). s.place) c.self.view_is) ∙ ap (λ (a : At). place_at a w) c.in-Fresh.is in
    let mark : c.comment_byte.result ≡ comment_byte now.style = c.comment_byte.ensures ∙ ap (λ (s : LexerState). comment_byte s.style) c.self.view_is in
    let other : eqb byte (comment_byte now.style) ≡ false = rw (← mark) (ne_eqb byte c.comment_byte.result c.if-byte-comment_byte.false) in
    stands_on _ now c.push.new.self (pushed now byte) byte c.push.ensures.pushed (λ text h. ink_pushed now text byte (ink_fresh now byte here other) c.requires.no_feed c.requires.no_blank h)

pub returns-in-Between-clause-stepped : goal.returns-in-Between-clause-stepped
returns-in-Between-clause-stepped c =
    let w = drop c.self.inside.start c.self.inside.bytes.items in
    let byte = c.args.byte in
    let now = c.args.self.now in
    let here : now.place ≡ Between = sym (ap (λ (s : LexerState). s.place) c.self.view_is) ∙ ap (λ (a : At). place_at a w) c.in-Between.is in
    stands_on _ now c.push-in-Between.new.self (pushed now byte) byte c.push-in-Between.ensures.pushed (λ text h. ink_pushed now text byte (ink_between now byte here) c.requires.no_feed c.requires.no_blank h)
