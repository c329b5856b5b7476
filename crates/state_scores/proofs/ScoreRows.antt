-- The pieces of each row are its text.
use Rattle.state_scores.proofs.Common.{nat_tests, arith, ◌≡◌, ℕ, ◌+◌, ◌<◌, List, [], ◌∷◌, ◌++◌, length, map, drop, get_or, sym, ap, ◌∙◌, append-nil, append_assoc, codes, decimal, signed_decimal, drop_more, flat_map-append, Cost, Row, row_text, rows_text, cost_row, energy_row, Score, best_row, cost_word, score_row, scores_text}

-- ---- a score

-- the words of a score, without the spaces between
abbrev pub score_pieces : List ℕ → List ℕ → List ℕ → List ℕ
score_pieces line cost energy =
    codes "sample " ++ (line ++ (codes " cost " ++ (cost ++ (codes " energy " ++ (energy ++ 10 ∷ [])))))

score_words : (line cost energy : List ℕ) → score_pieces line cost energy
    ≡ row_text (codes "sample" ∷ line ∷ codes "cost" ∷ cost ∷ codes "energy" ∷ energy ∷ [])
score_words line cost energy = simp append_assoc

cost_words : (cost : Cost) → codes "cost" ∷ cost_word cost ∷ [] ≡ cost_row cost
cost_words cost = grind (arith, nat_tests)

pub score_text : (s : Score) (line cost energy : List ℕ) → line ≡ decimal s.line
    → cost ≡ cost_word s.cost → energy ≡ signed_decimal s.energy
    → score_pieces line cost energy ≡ row_text (score_row s)
score_text s line cost energy l c e =
    (λ k. score_pieces (l k) (c k) (e k))
    ∙ score_words (decimal s.line) (cost_word s.cost) (signed_decimal s.energy)
    ∙ ap (λ (words : Row). row_text (codes "sample" ∷ decimal s.line ∷ words ++ energy_row s.energy))
    (cost_words s.cost)

-- the rows of the scores from a place on begin with the row of that place
pub scores_left : (scores : List Score) (i : ℕ) (score : Score) → i < length scores
    → get_or scores i score ≡ score → rows_text (map score_row (drop i scores))
    ≡ row_text (score_row score) ++ rows_text (map score_row (drop (i + 1) scores))
scores_left scores i score within is = grind (arith, nat_tests, drop_more)

-- ---- the best state

pub best_text : (line : ℕ) (number tail : List ℕ) → number ≡ decimal line
    → codes "best " ++ (number ++ 10 ∷ (tail ++ [])) ≡ row_text (best_row line) ++ tail
best_text line number tail is =
    (λ k. codes "best " ++ (is k ++ 10 ∷ append-nil tail k))
    ∙ ap (λ (l : List ℕ). codes "best " ++ l) (sym (append_assoc (decimal line) (10 ∷ []) tail))

-- ---- the whole text

pub text_parts : (scores : List Score) (best : ℕ) (tail : List ℕ) → scores_text scores best tail
    ≡ rows_text (map score_row scores) ++ (row_text (best_row best) ++ tail)
text_parts scores best tail = grind (arith, nat_tests, flat_map-append, append-nil, append_assoc)
