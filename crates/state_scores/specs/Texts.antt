-- The text of an evaluation: a row for each score, the line of the best state, and what that decodes to.
use Rattle.std.specs.Prelude.{ℕ, Bool, List, [], ◌∷◌, ◌++◌, map, codes, Option}
use Rattle.std.specs.Fmt.{decimal, signed_decimal}
use Rattle.base.specs.declared.costs.Cost.{Cost}
use Rattle.base.specs.declared.costs.Cost.TheVariants.{Whole, Infinite}
use Rattle.model_text.specs.Rows.{Row, rows_text}
use Rattle.answer_text.specs.Answers.{cost_row, energy_row, decoding_text}
use Rattle.state_scores.specs.declared.worth.Score.{Score}

-- the number of a state's line, the cost of what the state decodes to, and its energy
abbrev pub score_row : Score → Row
score_row s = codes "sample" ∷ decimal s.line ∷ cost_row s.cost ++ energy_row s.energy

-- the number of the best state's line
abbrev pub best_row : ℕ → Row
best_row line = codes "best" ∷ decimal line ∷ []

-- all scores, the line of the best state, and a text that follows
abbrev pub scores_text : List Score → ℕ → List ℕ → List ℕ
scores_text scores best tail = rows_text (map score_row scores ++ best_row best ∷ []) ++ tail

-- all scores, the line of the best state, and then the answer to its decoding: the assignment that it
-- decodes to, with names where its variables have any, and its cost and energy
abbrev pub evaluation_text : List Score → Score → List Bool → Option (List (List ℕ)) → List ℕ
evaluation_text scores best x names =
    scores_text scores best.line (decoding_text x names best.cost best.energy)

-- the word of a cost, which is a number or infinite
abbrev pub cost_word : Cost → List ℕ
cost_word (Whole value) = signed_decimal value
cost_word Infinite = codes "infinite"
