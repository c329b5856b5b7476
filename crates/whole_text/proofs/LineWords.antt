-- The words of a line, from left to right.
use Rattle.whole_text.proofs.Common.{nat_tests, ◌≡◌, ℕ, suc, ◌+◌, ◌<◌, ◌≤◌, Bool, true, false, not, eqb, List, [], ◌∷◌, ◌++◌, length, map, take, drop, get_or, refl, ap, ◌∙◌, arith, inl, inr, append_assoc, filter, slice_range, position_or_len, cases_lt, cases_Bool, not-true, drop_more, drop_all, take_all, map-append, length-take, length-drop, get_or-drop, get_or_read, prefix_len-le-length, prefix_len_passes, prefix_len_stops, slice_split_first, slice_split_none, Style, Token, word, word_at, is_blank, is_filled, words, pieces_of_line, comment_byte, begins_with, is_comment, tokens_of_line}
use Rattle.whole_text.proofs.Slices.{slice_length, slice_at, slice_dropped, slice_taken}

-- a byte of a word
abbrev pub is_ink : ℕ → Bool
is_ink c = not (is_blank c)

-- one blank in front is no part of a word
pub words_blank : (c : ℕ) (cs : List ℕ) → is_blank c ≡ true → words (c ∷ cs) ≡ words cs
unfolding words
words_blank c cs e = rw e refl

-- blanks in front are no part of a word
pub words_skip : (bs : List ℕ) → words bs ≡ words (drop (position_or_len is_ink bs) bs)
words_skip [] = refl
words_skip (c ∷ cs) =
    let more : suc (position_or_len is_ink cs) ≡ 1 + position_or_len is_ink cs = omega arith in
    grind (arith, nat_tests, cases_Bool, words_blank, words_skip cs)

pub skip_stops : (bs : List ℕ) → position_or_len is_ink bs < length bs → is_blank (get_or bs (position_or_len is_ink bs) 0) ≡ false
skip_stops bs lt = grind (arith, nat_tests, prefix_len_stops)

pub words_none : words [] ≡ []
unfolding words
words_none = refl

pub kept_first : (w : List ℕ) (ws : List (List ℕ)) → 0 < length w → filter is_filled (w ∷ ws) ≡ w ∷ filter is_filled ws
kept_first w ws some = grind (arith, nat_tests)

-- a line with a blank: the word before it, and the words after it
words_cut : (bs : List ℕ) → position_or_len is_blank bs < length bs → 0 < position_or_len is_blank bs → words bs ≡ take (position_or_len is_blank bs) bs ∷ words (drop (position_or_len is_blank bs + 1) bs)
unfolding words
words_cut bs lt some = grind (arith, nat_tests, slice_split_first, kept_first, length-take)

-- a line without a blank is one word
words_one : (bs : List ℕ) → position_or_len is_blank bs ≡ length bs → 0 < length bs → words bs ≡ bs ∷ []
unfolding words
words_one bs all some =
    grind (arith, nat_tests, slice_split_none, not-true, prefix_len_passes, kept_first)

-- a line that begins with no blank begins with a word
pub word_len_some : (bs : List ℕ) → 0 < length bs → is_blank (get_or bs 0 0) ≡ false → 0 < position_or_len is_blank bs
word_len_some [] some ink = absurd (omega arith)
word_len_some (c ∷ cs) some ink = grind (arith, nat_tests)

-- in both cases the first word is what stands before the first blank
pub words_first : (bs : List ℕ) → 0 < length bs → is_blank (get_or bs 0 0) ≡ false → words bs ≡ take (position_or_len is_blank bs) bs ∷ words (drop (position_or_len is_blank bs) bs)
words_first bs some ink =
    let n = position_or_len is_blank bs in
    let filled = word_len_some bs some ink in
    elim (cases_lt n (length bs)) [
      | inl lt ↦
          let stop = prefix_len_stops is_ink bs 0 lt in
          let cut = words_cut bs lt filled in
          grind (arith, nat_tests, drop_more, words_blank)
      | inr ge ↦
          let all : n ≡ length bs = omega (arith, prefix_len-le-length is_ink bs) in
          grind (arith, nat_tests, words_one, take_all, drop_all, words_none)
    ]

-- the first word begins with the first byte
begins : (c n : ℕ) (bs : List ℕ) (ws : List (List ℕ)) → 0 < n → 0 < length bs → begins_with c (take n bs ∷ ws) ≡ eqb (get_or bs 0 0) c
begins c n bs ws h some = grind (arith, nat_tests)

-- the first byte that is no blank decides whether a line is a comment
decided : (style : Style) (bs : List ℕ) → position_or_len is_ink bs < length bs → is_comment style bs ≡ eqb (get_or bs (position_or_len is_ink bs) 0) (comment_byte style)
unfolding is_comment
decided style bs lt =
    let n = position_or_len is_ink bs in
    let rest = drop n bs in
    let some : 0 < length rest = omega (arith, length-drop n bs) in
    let zero_more : n + 0 ≡ n = omega arith in
    let here : get_or rest 0 0 ≡ get_or bs n 0 = get_or-drop n bs 0 0 ∙ ap (λ k. get_or bs k 0) zero_more in
    let ink : is_blank (get_or rest 0 0) ≡ false = ap is_blank here ∙ skip_stops bs lt in
    ap (begins_with (comment_byte style)) (words_skip bs ∙ words_first rest some ink) ∙ begins (comment_byte style) (position_or_len is_blank rest) rest (words (drop (position_or_len is_blank rest) rest)) (word_len_some rest some ink) some ∙ ap (λ b. eqb b (comment_byte style)) here

pub comment_from_byte : (style : Style) (bs : List ℕ) (n byte : ℕ) → n ≡ position_or_len is_ink bs → n < length bs → byte ≡ get_or bs n byte → eqb byte (comment_byte style) ≡ is_comment style bs
comment_from_byte style bs n byte first lt read = grind (arith, nat_tests, get_or_read, decided)

-- a line of blanks is no comment
pub comment_none : (style : Style) (bs : List ℕ) (n : ℕ) → n ≡ position_or_len is_ink bs → length bs ≤ n → false ≡ is_comment style bs
unfolding is_comment
comment_none style bs n first le = grind (arith, nat_tests, words_skip, drop_all, words_none)

-- a comment has no tokens, and another line its pieces
pub comment_line : (style : Style) (n : ℕ) (line : List ℕ) → is_comment style line ≡ true → tokens_of_line style n line ≡ []
unfolding tokens_of_line
comment_line style n line e = rw e refl

pub other_line : (style : Style) (n : ℕ) (line : List ℕ) → is_comment style line ≡ false → tokens_of_line style n line ≡ map (word n) (pieces_of_line style line)
unfolding tokens_of_line
other_line style n line e = rw e refl

-- one more token of a line is pushed
pub token_taken : (text : List ℕ) (was now : List Token) (t : Token) (before after : List (List ℕ)) → before ≡ slice_range text t.start t.end ∷ after → now ≡ was ++ t ∷ []
    → map (word_at text) now ++ map (word t.line) after ≡ map (word_at text) was ++ map (word t.line) before
token_taken text was now t before after e n = grind (arith, nat_tests, map-append, append_assoc)

-- the blanks that are skipped at a place of a text, and where that ends
pub skipped : (text : List ℕ) (a b n : ℕ) → a ≤ b → b ≤ length text → n ≡ position_or_len is_ink (slice_range text a b)
    → (words (slice_range text a b) ≡ words (slice_range text (a + n) b)) × (a + n ≤ b) × (a + n < b → is_blank (get_or text (a + n) 0) ≡ false)
skipped text a b n ab bl e =
    grind (arith, nat_tests, slice_length, prefix_len-le-length, words_skip, slice_dropped, slice_at, skip_stops)

-- the word that is taken at a place of a text, and where it ends
pub taken : (text : List ℕ) (a b n : ℕ) → a < b → b ≤ length text → is_blank (get_or text a 0) ≡ false → n ≡ position_or_len is_blank (slice_range text a b)
    → (0 < n) × (a + n ≤ b) × (words (slice_range text a b) ≡ slice_range text a (a + n) ∷ words (slice_range text (a + n) b))
taken text a b n ab bl ink e =
    grind (arith, nat_tests, slice_length, prefix_len-le-length, slice_at, slice_taken, slice_dropped, words_first, word_len_some)
