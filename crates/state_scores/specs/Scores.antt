-- What the states of a text are worth, and which of them is the best.
use Rattle.std.specs.Prelude.{◌≡◌, ℕ, ◌^◌, ◌<◌, ℤ, int_lt, unsigned_abs, Bool, true, false, ◌&&◌, ◌||◌, not, List, map, find, Option, Some, ⊤}
use Rattle.std.specs.List.{list_any}
use Rattle.base.specs.declared.costs.Cost.{Cost}
use Rattle.base.specs.declared.costs.Cost.TheVariants.{Whole, Infinite}
use Rattle.state_file.specs.States.{StateLine}
use Rattle.state_scores.specs.declared.worth.Score.{Score}

-- ---- a state

-- how states are judged: how many bits a state has, the cost of what it decodes to, and its energy
pub record Judgement : Type 0 where
  pub width : ℕ
  pub cost : List Bool → Cost
  pub energy : List Bool → ℤ

-- the size of a cost that is whole is below 2 ^ 64
abbrev pub IsSmall : Cost → Type 0
IsSmall (Whole value) = unsigned_abs value < 2 ^ 64
IsSmall Infinite = ⊤

-- the score of a state: the number of its line, the cost of what it decodes to, and its energy
abbrev pub score_of : Judgement → StateLine → Score
score_of j state = record { line = state.0; cost = j.cost state.1; energy = j.energy state.1 }

-- ---- the best state

-- one cost is below another, where an infinite one is above every whole one
abbrev pub is_below : Cost → Cost → Bool
is_below (Whole a) (Whole b) = int_lt a b
is_below (Whole a) Infinite = true
is_below Infinite cost = false

-- a score is better than another: its cost is below, or the costs are equal and its energy is below
abbrev pub is_better : Score → Score → Bool
is_better s t = is_below s.cost t.cost || (not (is_below t.cost s.cost) && int_lt s.energy t.energy)

-- some state is better than this one
abbrev pub has_better : Judgement → List StateLine → StateLine → Bool
has_better j states state = list_any (λ other. is_better (score_of j other) (score_of j state)) states

-- the first state that none is better than
abbrev pub best_of : Judgement → List StateLine → Option StateLine
best_of j states = find (λ state. not (has_better j states state)) states

-- what the states are worth, in their order, and the best of them with its score
pub record IsEvaluation (j : Judgement) (states : List StateLine) (scores : List Score) (best : Score) (bits : List Bool) : Type 0 where
  pub listed : scores ≡ map (score_of j) states
  pub first : best_of j states ≡ Some (best.line, bits)
  pub worth : best ≡ score_of j (best.line, bits)
