-- A text tells its rows, where a row has a word and no word has a space or a line feed in it: both
-- texts are cut at their first line feed, and both lines at their first space.
use Rattle.model_text.proofs.Common.{all_append, nat_tests, arith, ◌≡◌, ℕ, false, eqb, List, [], ◌∷◌, ◌++◌, refl, ap, append_assoc, AllByRecursion, join_with_byte, Row, rows_text}

-- no byte of it is c
abbrev pub Lacks : ℕ → List ℕ → Type 0
Lacks c bs = AllByRecursion (λ b. eqb b c ≡ false) bs

-- no space and no line feed is in it
pub record IsWord (bs : List ℕ) : Type 0 where
  pub space : Lacks 32 bs
  pub feed : Lacks 10 bs

-- there is a word, and each is one
abbrev pub IsRow : Row → Type 0
IsRow [] = ⊥
IsRow (w ∷ ws) = AllByRecursion IsWord (w ∷ ws)

abbrev pub AreRows : List Row → Type 0
AreRows rows = AllByRecursion IsRow rows

-- ---- where a byte is that the fronts lack

pub no_such_byte : (c : ℕ) (front bs rest : List ℕ) → Lacks c bs → bs ≡ front ++ c ∷ rest → ⊥
no_such_byte c [] [] rest h e = cc
no_such_byte c (a ∷ front) [] rest h e = cc
no_such_byte c [] (b ∷ bs) rest h e = grind (arith, nat_tests)
no_such_byte c (a ∷ front) (b ∷ bs) rest h e = no_such_byte c front bs rest h.1 cc

-- both texts are cut at their first c
cut_at : (c : ℕ) (front other xs ys : List ℕ) → Lacks c front → Lacks c other
    → front ++ c ∷ xs ≡ other ++ c ∷ ys → (front ≡ other) × (xs ≡ ys)
cut_at c [] [] xs ys h k e = (refl, cc)
cut_at c [] (b ∷ other) xs ys h k e = grind (arith, nat_tests)
cut_at c (a ∷ front) [] xs ys h k e = grind (arith, nat_tests)
cut_at c (a ∷ front) (b ∷ other) xs ys h k e =
    grind (arith, nat_tests, cut_at c front other xs ys h.1 k.1)

-- ---- the words of a row

words_same : (w : List ℕ) (ws : Row) (v : List ℕ) (vs : Row) → IsRow (w ∷ ws) → IsRow (v ∷ vs)
    → join_with_byte 32 (w ∷ ws) ≡ join_with_byte 32 (v ∷ vs) → w ∷ ws ≡ v ∷ vs
words_same w [] v [] h k e = ap (λ (u : List ℕ). u ∷ []) e
words_same w [] v (y ∷ ys) h k e = grind (arith, nat_tests, no_such_byte 32 v w)
words_same w (x ∷ xs) v [] h k e = grind (arith, nat_tests, no_such_byte 32 w v)
words_same w (x ∷ xs) v (y ∷ ys) h k e =
    grind (arith, nat_tests, cut_at 32 w v, words_same x xs y ys h.1 k.1)

line_lacks_feed : (w : List ℕ) (ws : Row) → IsRow (w ∷ ws) → Lacks 10 (join_with_byte 32 (w ∷ ws))
line_lacks_feed w [] h = h.0.feed
line_lacks_feed w (v ∷ vs) h = grind (arith, nat_tests, line_lacks_feed v vs h.1, all_append)

-- ---- the rows of a text

not_empty : (line rest : List ℕ) → [] ≡ (line ++ 10 ∷ []) ++ rest → ⊥
not_empty [] rest e = cc
not_empty (b ∷ line) rest e = cc

-- two lists of rows with one text are one
pub rows_same : (rows others : List Row) → AreRows rows → AreRows others
    → rows_text rows ≡ rows_text others → rows ≡ others
rows_same [] [] h k e = refl
rows_same [] (row ∷ others) h k e = grind (arith, nat_tests, not_empty)
rows_same (row ∷ rows) [] h k e = grind (arith, nat_tests, not_empty)
rows_same ([] ∷ rows) (other ∷ others) h k e = absurd h.0
rows_same ((w ∷ ws) ∷ rows) ([] ∷ others) h k e = absurd k.0
rows_same ((w ∷ ws) ∷ rows) ((v ∷ vs) ∷ others) h k e =
    let cut = simp append_assoc at e in
    let halves = cut_at 10 _ _ _ _ (line_lacks_feed w ws h.0) (line_lacks_feed v vs k.0) cut in
    grind (arith, nat_tests, words_same w ws v vs h.0 k.0, rows_same rows others h.1 k.1)
