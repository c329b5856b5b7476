-- The words of a line from a place on, and the number that digits are.
use Rattle.chain_map.proofs.Common.{◌≡◌, ℕ, zero, suc, ◌+◌, ◌<◌, ◌≤◌, ◌^◌, true, false, not, eqb, List, [], ◌∷◌, length, map, take, drop, get_or, Ok, Some, refl, sym, ap, ◌∙◌, arith, pos, nat_le, is_ascii_digit, slice_range, position_or_len, list_all, digits_value, drop-cons, ne_eqb, nat_tests, number_of, size_of, word, words, is_blank, is_comment, tokens_of_line, integer_at, natural_at, size_plain, value_is, words_blank, words_none, taken, skipped, comment_from_byte, comment_none, comment_line, other_plain, slice_length, slice_at, slice_dropped, slice_taken, slice_none, Plain}
use Rattle.chain_map.proofs.Rows.{default_free}

-- ---- digits

digit_no_blank : (b : ℕ) → is_ascii_digit b ≡ true → is_blank b ≡ false
digit_no_blank b e = grind (arith, nat_tests)

digit_low : (b : ℕ) → is_ascii_digit b ≡ true → 48 ≤ b
digit_low b e = grind (arith, nat_tests)

head_digit : (b : ℕ) (bs : List ℕ) → list_all is_ascii_digit (b ∷ bs) ≡ true
    → (is_ascii_digit b ≡ true) × (list_all is_ascii_digit bs ≡ true)
head_digit b bs h = grind (arith, nat_tests)

-- digits up to a blank or the end are the first word
pub digits_end : (bs : List ℕ) (n : ℕ) → n ≤ length bs → list_all is_ascii_digit (take n bs) ≡ true
    → (n < length bs → is_blank (get_or bs n 0) ≡ true) → position_or_len is_blank bs ≡ n
digits_end [] zero within h stop = refl
digits_end [] (suc n) within h stop = absurd (omega (arith, within))
digits_end (b ∷ bs) zero within h stop = rw (stop (omega arith)) refl
digits_end (b ∷ bs) (suc n) within h stop =
    let d = head_digit b (take n bs) h in
    rw (digit_no_blank b d.0, digits_end bs n (omega (arith, within)) d.1 (λ lt. stop (omega (arith, lt))))
    (omega arith)

number_plain : (bs : List ℕ) (v : ℕ) → list_all is_ascii_digit bs ≡ true → 0 < length bs
    → size_of bs ≡ Some v → number_of bs ≡ Some (pos v)
unfolding number_of
number_plain [] v h some size = absurd (omega (arith, some))
number_plain (b ∷ bs) v h some size =
    let low = digit_low b (head_digit b bs h).0 in
    rw (ne_eqb b 43 (λ e. omega arith), ne_eqb b 45 (λ e. omega arith), size) refl

natural_plain : (line v : ℕ) (bs : List ℕ) → number_of bs ≡ Some (pos v)
    → natural_at 0 (word line bs) ≡ Ok v
unfolding natural_at integer_at
natural_plain line v bs e = let low : nat_le 0 v ≡ true = grind (arith, nat_tests) in rw (e, low) refl

-- and they are a number
pub digits_number : (line v : ℕ) (bs : List ℕ) → list_all is_ascii_digit bs ≡ true → 0 < length bs
    → v < 2 ^ 64 → v ≡ digits_value 10 bs → natural_at 0 (word line bs) ≡ Ok v
digits_number line v bs h some small value =
    natural_plain line v bs
    (number_plain bs v h some (size_plain bs h ∙ sym (value_is bs v some h small value)))

-- ---- words

-- a blank in front is passed
pub blank_passed : (text : List ℕ) (a b : ℕ) → a < b → b ≤ length text → is_blank (get_or text a 0) ≡ true
    → words (slice_range text a b) ≡ words (slice_range text (a + 1) b)
blank_passed text a b lt le blank =
    let bs = slice_range text a b in
    let len = slice_length text a b le in
    let first = slice_at text a b 0 (omega arith) in
    let cons = drop-cons bs 0 0 (omega arith) in
    let pass = words_blank (get_or bs 0 0) (drop 1 bs) in
    let rest = slice_dropped text a 1 b (omega arith) in grind (arith, nat_tests)

-- the first word, where it ends, and the words after it
pub first_word : (text : List ℕ) (a b n line : ℕ) → a < b → b ≤ length text
    → is_blank (get_or text a 0) ≡ false → n ≡ position_or_len is_blank (slice_range text a b)
    → (0 < n) × (a + n ≤ b) × (map (word line) (words (slice_range text a b))
    ≡ word line (take (position_or_len is_blank (slice_range text a b)) (slice_range text a b))
    ∷ map (word line) (words (slice_range text (a + n) b)))
first_word text a b n line lt le ink e =
    let t = taken text a b n lt le ink e in
    let cut = slice_taken text a n b t.1 in (t.0, t.1, cc (t.2, e))

-- ---- lines

-- a line of blanks has no tokens
pub line_blank : (text : List ℕ) (a b n line : ℕ) → a ≤ b → b ≤ length text
    → n ≡ position_or_len (λ c. not (is_blank c)) (slice_range text a b) → a + n ≡ b
    → tokens_of_line Plain line (slice_range text a b) ≡ []
line_blank text a b n line ab le first end =
    let bs = slice_range text a b in
    let len = slice_length text a b le in
    let skip = skipped text a b n ab le first in
    let none : words bs ≡ [] = cc (skip.0, end, slice_none text b, words_none) in
    other_plain line bs (sym (comment_none Plain bs n first (omega arith))) ∙ ap (map (word line)) none

-- the first byte that is no blank says whether it is a comment
pub comment_is : (text : List ℕ) (a b n : ℕ) → a ≤ b → b ≤ length text
    → n ≡ position_or_len (λ c. not (is_blank c)) (slice_range text a b) → a + n < b
    → eqb (get_or text (a + n) 0) 99 ≡ is_comment Plain (slice_range text a b)
comment_is text a b n ab le first lt =
    let bs = slice_range text a b in
    let byte = get_or text (a + n) 0 in
    let len = slice_length text a b le in
    let below : n < length bs = omega arith in
    comment_from_byte Plain bs n byte first below
    (sym (slice_at text a b n (omega arith)) ∙ default_free bs n 0 byte below)

pub line_comment : (text : List ℕ) (a b n line : ℕ) → a ≤ b → b ≤ length text
    → n ≡ position_or_len (λ c. not (is_blank c)) (slice_range text a b) → a + n < b
    → get_or text (a + n) 0 ≡ 99 → tokens_of_line Plain line (slice_range text a b) ≡ []
line_comment text a b n line ab le first lt c =
    comment_line Plain line (slice_range text a b) (sym (comment_is text a b n ab le first lt) ∙ ap (λ k. eqb k 99) c)

-- another line has its first word, and the words after it
pub line_tokens : (text : List ℕ) (a b n m line : ℕ) → a ≤ b → b ≤ length text
    → n ≡ position_or_len (λ c. not (is_blank c)) (slice_range text a b) → a + n < b
    → (get_or text (a + n) 0 ≡ 99 → ⊥) → m ≡ position_or_len is_blank (slice_range text (a + n) b)
    → (0 < m) × (a + n + m ≤ b) × (tokens_of_line Plain line (slice_range text a b)
    ≡ word line (take (position_or_len is_blank (slice_range text (a + n) b)) (slice_range text (a + n) b))
    ∷ map (word line) (words (slice_range text (a + n + m) b)))
line_tokens text a b n m line ab le first lt other e =
    let skip = skipped text a b n ab le first in
    let w = first_word text (a + n) b m line lt le (skip.2 lt) e in
    let is = other_plain line (slice_range text a b)
    (sym (comment_is text a b n ab le first lt) ∙ ne_eqb (get_or text (a + n) 0) 99 other) in
    (w.0, w.1, cc (is, skip.0, w.2))
