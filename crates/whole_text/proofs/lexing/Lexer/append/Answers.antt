use Rattle.whole_text.proofs.Common.{◌≡◌, ◌+◌, ◌++◌, List, ℕ, length, take, drop, sym, ap, ◌∙◌, arith, rules, take-append-add, drop-append-le, length-append, length-take-le, Word, words_at, Place, Inside, LexerState, place_at, begun}
use Rattle.whole_text.proofs.LexerFields.{words_kept, held_inside, place_inside}
use Rattle.whole_text.proofs.lexing.Lexer.append.Goals as goal

pub returns-clause-appended : goal.returns-clause-appended
returns-clause-appended c =
    let inside = c.self.inside in
    let bytes = inside.bytes.items in
    let start = inside.start in
    let w = c.requires.inside.0 in
    let len = c.args.len in
    let more = take len c.args.bytes.now in
    let count : c.len.result ≡ length bytes = search rules in
    let after : c.truncate.new.self.items ≡ bytes ++ more =
    c.truncate.ensures.items ∙ (λ i. take (count i + len) (c.in_ok-extend_from_slice.ensures.items i)) ∙ take-append-add bytes c.args.bytes.now len in
    let here : place_at inside.at (drop start bytes) ≡ Inside w =
    ap (λ (s : LexerState). s.place) c.self.view_is ∙ c.requires.inside.1 in
    let held = held_inside inside.at (drop start bytes) start (length bytes) w here c.self.invariant.from in
    let words : words_at (bytes ++ more) inside.tokens ≡ words_at bytes inside.tokens =
    words_kept bytes more 0 inside.tokens start c.self.invariant.joined (omega (arith, held.1)) in
    let place : place_at inside.at (drop start (bytes ++ more)) ≡ Inside (begun (place_at inside.at (drop start bytes)) ++ more) =
    place_inside inside.at (drop start bytes) w (drop start (bytes ++ more)) here
    ∙ ap Inside (drop-append-le start bytes more (omega (arith, held.1)) ∙ ap (λ (l : List ℕ). l ++ more) held.0)
    ∙ ap (λ (p : Place). Inside (begun p ++ more)) (sym here) in
    let size : length (bytes ++ more) ≡ length bytes + len = omega (arith, length-append bytes more, length-take-le len c.args.bytes.now c.requires.within) in
    let state = λ (ws : List Word) (p : Place) (n : ℕ). let s : LexerState = record { style = inside.style; words = ws; place = p; line = inside.line; size = n } in s in
    rw (← c.self.view_is, after) (λ i. state (words i) (place i) (size i))
