-- States that are judged together, and what is known after states one by one.
use Rattle.std.specs.Prelude.{◌≡◌, ◌≤◌, ◌<◌, ◌==◌, ◌||◌, ℕ, ℤ, pos, Bool, List, [], ◌∷◌, ◌++◌, All, length, if◌then◌else◌}
use Rattle.std.specs.List.{slice_index_or, zip}
use Rattle.base.specs.declared.costs.Cost.{Cost}
use Rattle.base.specs.declared.costs.Cost.TheVariants.{Infinite}
use Rattle.state_file.specs.States.{StateLine}
use Rattle.state_scores.specs.declared.evaluating.Evaluation.{Evaluation}
use Rattle.state_scores.specs.declared.worth.Score.{Score}
use Rattle.state_scores.specs.Scores.{IsEvaluation, Judgement, is_better, score_of}

-- ---- a batch

-- the costs are those of what these states decode to
abbrev pub AreCosts : Judgement → List (List Bool) → List Cost → Type 0
AreCosts j states costs =
    (k : ℕ) → k < length states → slice_index_or costs k Infinite ≡ j.cost (slice_index_or states k [])

-- the energies are those of these states
abbrev pub AreEnergies : Judgement → List (List Bool) → List ℤ → Type 0
AreEnergies j states energies =
    (k : ℕ) → k < length states → slice_index_or energies k (pos 0) ≡ j.energy (slice_index_or states k [])

-- this holds of each judgement whose costs and energies of these states are these
abbrev pub WhereJudged : List (List Bool) → List Cost → List ℤ → (Judgement → Type 0) → Type 0
WhereJudged states costs energies P =
    (j : Judgement) → AreCosts j states costs → AreEnergies j states energies → P j

-- states with the numbers of their lines were taken off the front of others: at most 64, and none
-- only where none were left
pub record AreTaken (width : ℕ) (before after : List StateLine) (lines : List ℕ)
    (states : List (List Bool)) (costs : List Cost) (energies : List ℤ) : Type 0 where
  pub front : before ≡ zip lines states ++ after
  pub numbered : length lines ≡ length states
  pub room : length costs ≡ length states
  pub measured : length energies ≡ length states
  pub wide : All (λ state. length state ≡ width) states
  pub few : length states ≤ 64
  pub all : states ≡ [] → after ≡ []

-- ---- what is known after states one by one

-- the scores of some states, the best of them, and the bits of its state
pub record Standing : Type 0 where
  pub scores : List Score
  pub best : Score
  pub bits : List Bool

-- that of an evaluation so far
abbrev pub standing : Evaluation → Standing
standing e = record { scores = e.scores; best = e.best; bits = e.state.items }

-- a score is the first, or better than the best so far
abbrev pub leads : Standing → Score → Bool
leads s score = (length s.scores == 0) || is_better score s.best

-- what is known after a state of this score and these bits
abbrev pub after_score : Standing → Score → List Bool → Standing
after_score s score bits = record {
  scores = s.scores ++ score ∷ [];
  best = if leads s score then score else s.best;
  bits = if leads s score then bits else s.bits;
}

-- what is known after these states
abbrev pub after_states : Judgement → Standing → List StateLine → Standing
after_states j s [] = s
after_states j s (state ∷ states) = after_states j (after_score s (score_of j state) state.1) states

-- there are neither states nor scores, or what the states are worth and the best of them
abbrev pub IsEvaluationOf : Judgement → List StateLine → Standing → Type 0
IsEvaluationOf j [] s = s.scores ≡ []
IsEvaluationOf j (state ∷ states) s = IsEvaluation j (state ∷ states) s.scores s.best s.bits
