use Rattle.whole_text.proofs.Common.{◌≡◌, ◌+◌, ◌∷◌, ◌++◌, [], Bool, List, ℕ, true, false, length, drop, sym, ap, subst, ◌∙◌, At, Style, word, joins, Inside, LexerState, StandsFor, place_at, IsWordStart, ended, begun, after_blank}
use Rattle.whole_text.proofs.Pieces.{last_of}
use Rattle.whole_text.proofs.LexerFields.{stands_on, ink_pushed, ink_inside, ink_apart, held_inside, last_begun}
use Rattle.whole_text.proofs.lexing.Lexer.next_ink.Goals as goal

-- the state with one byte more in its token
abbrev pushed : LexerState → ℕ → LexerState
pushed s byte = record s { place = Inside (begun s.place ++ byte ∷ []); size = s.size + 1 }

-- the state behind a token that has ended, with the first byte of the next one
abbrev parted : LexerState → ℕ → LexerState
parted s byte =
    pushed (record s { words = s.words ++ ended s.line s.place; place = after_blank s.place }) byte

-- whether a byte joins the last byte held is whether it joins that of the token
joined : (own style : Style) (a : At) (bytes given : List ℕ) (start : ℕ) (w : List ℕ) (byte : ℕ)
    (r : Bool) → own ≡ style → place_at a (drop start bytes) ≡ Inside w
    → IsWordStart a start (length bytes) → given ≡ bytes → r ≡ joins own (last_of given) byte
    → joins style (last_of w) byte ≡ r
joined own style a bytes given start w byte r same here from value e =
    let held = held_inside a (drop start bytes) start (length bytes) w here from in
    let last : last_of given ≡ last_of w =
    ap last_of value ∙ sym (last_begun bytes start held.1) ∙ ap last_of held.0 in
    sym (e ∙ (λ i. joins (same i) (last i) byte))

-- the next token begins
parted_is : (s : LexerState) (w : List ℕ) (byte : ℕ) → s.place ≡ Inside w → parted s byte
    ≡ record s {
      words = s.words ++ word s.line w ∷ [];
      place = Inside (byte ∷ []);
      size = s.size + 1;
    }
parted_is s w byte here = λ i. parted (record s { place = here i }) byte

pub returns-then-goes_on-clause-stepped : goal.returns-then-goes_on-clause-stepped
returns-then-goes_on-clause-stepped c =
    let inside = c.self.inside in
    let now = c.args.self.now in
    let byte = c.args.byte in
    let w = c.requires.inside.0 in
    let here : place_at inside.at (drop inside.start inside.bytes.items) ≡ Inside w =
    ap (λ (s : LexerState). s.place) c.self.view_is ∙ c.requires.inside.1 in
    let together : joins now.style (last_of w) byte ≡ true =
    joined c.args.style now.style inside.at inside.bytes.items c.deref.result.now inside.start w
    byte c.goes_on.result c.requires.own here c.self.invariant.from c.deref.ensures.value
    c.goes_on.ensures ∙ c.if-goes_on.true in
    stands_on _ now c.push.new.self (pushed now byte) byte c.push.ensures.pushed
    (λ text h. ink_pushed now text byte (ink_inside now w byte c.requires.inside.1 together)
    c.requires.no_feed c.requires.no_blank h)

pub returns-clause-stepped : goal.returns-clause-stepped
returns-clause-stepped c =
    let inside = c.self.inside in
    let now = c.args.self.now in
    let byte = c.args.byte in
    let w = c.requires.inside.0 in
    let here : place_at inside.at (drop inside.start inside.bytes.items) ≡ Inside w =
    ap (λ (s : LexerState). s.place) c.self.view_is ∙ c.requires.inside.1 in
    let apart : joins now.style (last_of w) byte ≡ false =
    joined c.args.style now.style inside.at inside.bytes.items c.deref.result.now inside.start w
    byte c.goes_on.result c.requires.own here c.self.invariant.from c.deref.ensures.value
    c.goes_on.ensures ∙ c.if-goes_on.false in
    let cut = c.in_ok-end_word.ensures.ended in
    stands_on _ now c.push-2.new.self (pushed c.end_word.new.self byte) byte c.push-2.ensures.pushed
    (λ text h. subst (λ (s : LexerState). StandsFor s (text ++ byte ∷ []))
    (sym (ap (λ (s : LexerState). pushed s byte) cut ∙ parted_is now w byte c.requires.inside.1))
    (ink_apart now text w byte c.requires.inside.1 apart c.requires.no_feed c.requires.no_blank h))
