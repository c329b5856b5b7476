-- The parts that rows name, one row after another, and one line after another.
--
-- The part that a line names, by the words that stand on it.
use Rattle.part_lists.proofs.Common.{Plain, ◌≡◌, ℕ, ◌+◌, ◌++◌, List, [], ◌∷◌, Ok, Err, refl, sym, ap, ◌∙◌, Result, append_assoc, append-nil, TextFault, TextAnswer, Word, tokens_of_line, tokens_from, by_line, each, ◌>>=◌, Fails, row_of, after_front, Part, part_at, parts_of_words, ◌<◌, ◌≤◌, not, length, map, take, slice_range, position_or_len, word, words, is_blank, fault, words_none, skipped, slice_none, first_word, qubit_at, joined_at, rest_at, Bool}
use Rattle.whole_text.specs.declared.faults.TextAnswer.TheVariants.{Bad, NoMemory}
use Rattle.part_lists.proofs.LineRows.{one_row, rows_of_lines}
use Rattle.part_lists.specs.declared.parts.Part.TheVariants.{Qubit, Coupler}
use Rattle.whole_text.specs.declared.faults.TextKind.TheVariants as kinds

-- ---- readings of lists

one_more : {B : Type 0} (b : Result B TextFault) (some rest : Result (List B) TextFault)
    → (b >>= λ c. (some >>= λ cs. rest >>= λ ds. Ok (cs ++ ds)) >>= λ cs. Ok (c ∷ cs))
    ≡ ((b >>= λ c. some >>= λ cs. Ok (c ∷ cs)) >>= λ cs. rest >>= λ ds. Ok (cs ++ ds))
one_more (Ok c) (Ok cs) (Ok ds) = refl
one_more (Ok c) (Ok cs) (Err f) = refl
one_more (Ok c) (Err f) rest = refl
one_more (Err f) some rest = refl

no_more : {B : Type 0} (rest : Result (List B) TextFault) → rest ≡ (rest >>= λ ds. Ok ds)
no_more (Ok ds) = refl
no_more (Err f) = refl

each-append : {A B : Type 0} (read : A → Result B TextFault) (xs ys : List A)
    → each read (xs ++ ys) ≡ (each read xs >>= λ cs. each read ys >>= λ ds. Ok (cs ++ ds))
unfolding each
each-append read [] ys = no_more (each read ys)
each-append read (x ∷ xs) ys =
    rw (each-append read xs ys) (one_more (read x) (each read xs) (each read ys))

-- what some are read as, and then the others
joined_more : {B : Type 0} (front next : List B) (some rest : Result (List B) TextFault)
    → after_front front some ≡ Ok next
    → after_front front (some >>= λ cs. rest >>= λ ds. Ok (cs ++ ds)) ≡ after_front next rest
joined_more front next (Ok cs) (Ok ds) said =
    let same : front ++ cs ≡ next = cc said in rw (← same) (ap Ok (sym (append_assoc front cs ds)))
joined_more front next (Ok cs) (Err f) said = refl
joined_more front next (Err f) rest said = absurd cc

-- a fault of some
joined_fails : {B : Type 0} (front : List B) (some rest : Result (List B) TextFault) (f : TextFault)
    → after_front front some ≡ Err f
    → after_front front (some >>= λ cs. rest >>= λ ds. Ok (cs ++ ds)) ≡ Err f
joined_fails front (Ok cs) rest f fails = absurd cc
joined_fails front (Err g) rest f fails = fails

-- ---- one line

-- a line without words
pub parts_none : (exists : ℕ → Bool) (joined : ℕ → ℕ → Bool) (ws : List Word) → ws ≡ [] → parts_of_words exists joined ws ≡ Ok []
unfolding parts_of_words each by_line
parts_none exists joined ws none = rw none refl

-- a line that names a part, or is bad
pub line_says : (exists : ℕ → Bool) (joined : ℕ → ℕ → Bool) (n : ℕ) (line : List ℕ) (w : Word) (ws : List Word)
    → tokens_of_line Plain n line ≡ w ∷ ws → parts_of_words exists joined (tokens_of_line Plain n line)
    ≡ part_at exists joined (row_of w ws) >>= λ part. Ok (part ∷ [])
unfolding parts_of_words each
line_says exists joined n line w ws said = rw (said, one_row Plain n line w ws said) refl

-- ---- one line after another

abbrev parts_from : (ℕ → Bool) → (ℕ → ℕ → Bool) → ℕ → List (List ℕ) → Result (List Part) TextFault
parts_from exists joined n lines = parts_of_words exists joined (tokens_from Plain n lines)

-- what one line says, and then the others
pub line_more : (exists : ℕ → Bool) (joined : ℕ → ℕ → Bool) (front next : List Part) (n : ℕ) (line : List ℕ)
    (before after : List (List ℕ)) → before ≡ line ∷ after
    → after_front front (parts_of_words exists joined (tokens_of_line Plain n line)) ≡ Ok next
    → after_front front (parts_from exists joined n before)
    ≡ after_front next (parts_from exists joined (n + 1) after)
unfolding parts_of_words
line_more exists joined front next n line before after cut said =
    rw (cut, rows_of_lines Plain n line after, each-append) (joined_more front next _ _ said)

line_bad : (exists : ℕ → Bool) (joined : ℕ → ℕ → Bool) (front : List Part) (n : ℕ) (line : List ℕ)
    (before after : List (List ℕ)) (f : TextFault) → before ≡ line ∷ after
    → after_front front (parts_of_words exists joined (tokens_of_line Plain n line)) ≡ Err f
    → after_front front (parts_from exists joined n before) ≡ Err f
unfolding parts_of_words
line_bad exists joined front n line before after f cut fails =
    rw (cut, rows_of_lines Plain n line after, each-append) (joined_fails front _ _ f fails)

-- a fault of one line
pub line_fails : (exists : ℕ → Bool) (joined : ℕ → ℕ → Bool) (front : List Part) (n : ℕ) (line : List ℕ)
    (before after : List (List ℕ)) (e : TextAnswer) → before ≡ line ∷ after
    → Fails e (after_front front (parts_of_words exists joined (tokens_of_line Plain n line)))
    → Fails e (after_front front (parts_from exists joined n before))
line_fails exists joined front n line before after NoMemory cut fails = tt
line_fails exists joined front n line before after (Bad f) cut fails =
    line_bad exists joined front n line before after f cut fails

-- after the last line there is nothing
pub lines_end : (exists : ℕ → Bool) (joined : ℕ → ℕ → Bool) (front : List Part) (n : ℕ)
    → after_front front (parts_from exists joined n []) ≡ Ok front
unfolding tokens_from
lines_end exists joined front n = rw (parts_none exists joined (tokens_from Plain n []) refl, append-nil) refl

-- ---- words

-- the first word of what stands from a to b
abbrev pub head_of : ℕ → List ℕ → ℕ → ℕ → Word
head_of line text a b =
    word line (take (position_or_len is_blank (slice_range text a b)) (slice_range text a b))

-- all words of what stands from a to b
abbrev pub all_of : ℕ → List ℕ → ℕ → ℕ → List Word
all_of line text a b = map (word line) (words (slice_range text a b))

-- blanks to the end
pub none_left : (text : List ℕ) (a b n line : ℕ) → a ≤ b → b ≤ length text
    → n ≡ position_or_len (λ c. not (is_blank c)) (slice_range text a b) → a + n ≡ b
    → all_of line text a b ≡ []
none_left text a b n line ab le first end =
    let skip = (skipped text a b n ab le first).0 in
    cc (end, slice_none text b, words_none)

-- blanks, and then a word
pub some_left : (text : List ℕ) (a b n m line : ℕ) → a ≤ b → b ≤ length text
    → n ≡ position_or_len (λ c. not (is_blank c)) (slice_range text a b) → a + n < b
    → m ≡ position_or_len is_blank (slice_range text (a + n) b) → (a + n + m ≤ b)
    × (all_of line text a b ≡ head_of line text (a + n) b ∷ all_of line text (a + n + m) b)
some_left text a b n m line ab le first lt e =
    let skip = skipped text a b n ab le first in
    let w = first_word text (a + n) b m line lt le (skip.2 lt) e in
    (w.1, ap (map (word line)) skip.0 ∙ w.2)

-- ---- what follows the number of a qubit

pub rest_none : (exists : ℕ → Bool) (joined : ℕ → ℕ → Bool) (a : ℕ) (ws : List Word) → ws ≡ []
    → rest_at exists joined a ws ≡ Ok (Qubit a)
unfolding rest_at
rest_none exists joined a ws none = rw none refl

pub rest_bad : (exists : ℕ → Bool) (joined : ℕ → ℕ → Bool) (a : ℕ) (w : Word) (ws : List Word) (f : TextFault)
    → joined_at exists joined a w ≡ Err f → rest_at exists joined a (w ∷ ws) ≡ Err f
unfolding rest_at
rest_bad exists joined a w [] f bad = rw bad refl
rest_bad exists joined a w (v ∷ vs) f bad = rw bad refl

pub rest_one : (exists : ℕ → Bool) (joined : ℕ → ℕ → Bool) (a b : ℕ) (w : Word) (ws : List Word) → joined_at exists joined a w ≡ Ok b
    → ws ≡ [] → rest_at exists joined a (w ∷ ws) ≡ Ok (Coupler a b)
unfolding rest_at
rest_one exists joined a b w ws said none = rw (none, said) refl

pub rest_more : (exists : ℕ → Bool) (joined : ℕ → ℕ → Bool) (a b : ℕ) (w v : Word) (ws vs : List Word)
    → joined_at exists joined a w ≡ Ok b → ws ≡ v ∷ vs
    → rest_at exists joined a (w ∷ ws) ≡ Err (fault kinds.Extra v.line)
unfolding rest_at
rest_more exists joined a b w v ws vs said more = rw (more, said) refl

-- ---- the line

-- a first word that is the number of no qubit
pub first_bad : (exists : ℕ → Bool) (joined : ℕ → ℕ → Bool) (n : ℕ) (line : List ℕ) (w : Word) (ws : List Word)
    (f : TextFault) → tokens_of_line Plain n line ≡ w ∷ ws → qubit_at exists w ≡ Err f
    → parts_of_words exists joined (tokens_of_line Plain n line) ≡ Err f
unfolding part_at
first_bad exists joined n line w ws f said bad = rw (line_says exists joined n line w ws said, bad) refl

-- and one that is, and what follows
pub first_good : (exists : ℕ → Bool) (joined : ℕ → ℕ → Bool) (n a : ℕ) (line : List ℕ) (w : Word) (ws : List Word)
    → tokens_of_line Plain n line ≡ w ∷ ws → qubit_at exists w ≡ Ok a
    → parts_of_words exists joined (tokens_of_line Plain n line) ≡ rest_at exists joined a ws >>= λ part. Ok (part ∷ [])
unfolding part_at
first_good exists joined n a line w ws said good = rw (line_says exists joined n line w ws said, good) refl
