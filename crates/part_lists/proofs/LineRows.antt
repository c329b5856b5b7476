-- The rows of a text come line by line: the words of a line are a row, where it has words.
use Rattle.part_lists.proofs.Common.{inr, inl, cases_Bool, nat_tests, ◌≡◌, ℕ, ◌+◌, ◌<◌, ◌==◌, false, List, [], ◌∷◌, ◌++◌, map, refl, sym, ap, ◌∙◌, arith, Style, Word, word, is_comment, pieces_of_line, tokens_of_line, tokens_from, Row, onto_rows, by_line, row_of, by_line-first, ne_eqb}

-- ---- the words of one line

-- all of them have its number
line_words : (style : Style) (n : ℕ) (line : List ℕ)
    → (bytes : List (List ℕ)) × (tokens_of_line style n line ≡ map (word n) bytes)
unfolding tokens_of_line
line_words style n line = elim (cases_Bool (is_comment style line)) [
  | inl e ↦ ([], rw e refl)
  | inr e ↦ (pieces_of_line style line, rw e refl)
]

onto_same : (w : Word) (r : Row) → r.first.line ≡ w.line
    → onto_rows w (r ∷ []) ≡ row_of w (r.first ∷ r.others) ∷ []
onto_same w r same = grind (arith, nat_tests)

same_row : (n : ℕ) (b : List ℕ) (bs : List (List ℕ))
    → by_line (map (word n) (b ∷ bs)) ≡ row_of (word n b) (map (word n) bs) ∷ []
unfolding by_line
same_row n b [] = refl
same_row n b (c ∷ cs) =
    ap (onto_rows (word n b)) (same_row n c cs)
    ∙ onto_same (word n b) (row_of (word n c) (map (word n) cs)) refl

-- a line with words is one row
pub one_row : (style : Style) (n : ℕ) (line : List ℕ) (w : Word) (ws : List Word)
    → tokens_of_line style n line ≡ w ∷ ws → by_line (w ∷ ws) ≡ row_of w ws ∷ []
one_row style n line w ws said =
    let found = line_words style n line in
    go found.0 (sym found.1 ∙ said)
  where
    go : (bytes : List (List ℕ)) → map (word n) bytes ≡ w ∷ ws → by_line (w ∷ ws) ≡ row_of w ws ∷ []
    go [] e = absurd cc
    go (b ∷ bs) e = let row = same_row n b bs in cc

-- ---- a line and those after it

-- the next word does not stand on this line
abbrev IsPast : ℕ → List Word → Type 0
IsPast n [] = Unit {0}
IsPast n (w ∷ ws) = (w.line == n) ≡ false

past_words : (m n : ℕ) (bytes : List (List ℕ)) (ws : List Word) → m < n → IsPast m ws
    → IsPast m (map (word n) bytes ++ ws)
past_words m n [] ws low past = past
past_words m n (b ∷ bs) ws low past = ne_eqb n m (λ e. omega (arith, low, e))

later_past : (style : Style) (m n : ℕ) (lines : List (List ℕ)) → m < n
    → IsPast m (tokens_from style n lines)
unfolding tokens_from
later_past style m n [] low = tt
later_past style m n (line ∷ lines) low =
    let found = line_words style n line in
    rw found.1 (past_words m n found.0 (tokens_from style (n + 1) lines) low
    (later_past style m (n + 1) lines (omega (arith, low))))

onto_front : (w : Word) (r : Row) (rs others : List Row)
    → onto_rows w (r ∷ rs ++ others) ≡ onto_rows w (r ∷ rs) ++ others
onto_front w r rs others = grind (arith, nat_tests)

onto_past : (n : ℕ) (w : Word) (ws : List Word) → w.line ≡ n → IsPast n ws
    → onto_rows w (by_line ws) ≡ row_of w [] ∷ by_line ws
unfolding by_line
onto_past n w [] here past = refl
onto_past n w (v ∷ vs) here past =
    let first = by_line-first v vs in
    grind (arith, nat_tests)

rows_apart : (n : ℕ) (bytes : List (List ℕ)) (ws : List Word) → IsPast n ws
    → by_line (map (word n) bytes ++ ws) ≡ by_line (map (word n) bytes) ++ by_line ws
unfolding by_line
rows_apart n [] ws past = refl
rows_apart n (b ∷ []) ws past = onto_past n (word n b) ws refl past
rows_apart n (b ∷ c ∷ cs) ws past =
    let one = same_row n c cs in
    ap (onto_rows (word n b)) (rows_apart n (c ∷ cs) ws past ∙ ap (λ rs. rs ++ by_line ws) one)
    ∙ onto_front (word n b) (row_of (word n c) (map (word n) cs)) [] (by_line ws)
    ∙ ap (λ rs. onto_rows (word n b) rs ++ by_line ws) (sym one)

-- the rows of a line, and then those of the lines after it
pub rows_of_lines : (style : Style) (n : ℕ) (line : List ℕ) (lines : List (List ℕ))
    → by_line (tokens_from style n (line ∷ lines))
    ≡ by_line (tokens_of_line style n line) ++ by_line (tokens_from style (n + 1) lines)
unfolding tokens_from
rows_of_lines style n line lines =
    let found = line_words style n line in
    let rest = rows_apart n found.0 (tokens_from style (n + 1) lines)
    (later_past style n (n + 1) lines (omega arith)) in
    cc (found.1)
