-- What slack bits and squares promise beside the guard's clauses.
use Rattle.std.specs.Prelude.{◌≡◌, ℕ, ◌≤◌, ℤ, pos, ◌-ℤ◌, ◌*ℤ◌, ◌≤ℤ◌, Bool, List, All, length, take}
use Rattle.std.specs.List.{flat_map}
use Rattle.literal_lists.specs.declared.literal.Literal.{Literal}
use Rattle.problem_form.specs.declared.terms.Constraint.{Constraint}
use Rattle.literal_lists.specs.Literals.{IsLiteralSet}
use Rattle.problem_form.specs.Problems.{ProblemContent, IsNormal, sum_of}
use Rattle.problem_form.specs.PartPenalties.{priced_cost, AreEnough, IsGlobal}
use Rattle.problem_form.specs.Limits.{slack_range}
use Rattle.term_table.specs.Terms.{Term, coefficient_of, terms_cost}
use Rattle.term_table.specs.Products.{scaled, products_with}
use Rattle.penalty_layer.specs.Slack.{slack_value, slack_weights, value_bits}
use Rattle.penalty_layer.specs.Squares.{slack_form, square_terms}
use Rattle.penalty_layer.specs.Penalty.{extension, image}

-- The weights reach each value within the range. So a constraint that holds can have the square 0.
abbrev pub WeightsReach : Type 0
WeightsReach = (r v : ℕ) → v ≤ r → slack_value (value_bits r v) 0 (slack_weights r) ≡ v

-- and no other. So a constraint whose sum is below its bound, or above it where it has to be equal,
-- cannot
abbrev pub WeightsStay : Type 0
WeightsStay = (y : List Bool) (first r : ℕ) → slack_value y first (slack_weights r) ≤ r

-- What the sum of a constraint has above its bound, less the slack. It is 0 exactly where the slack
-- makes up for what the sum has above the bound.
abbrev pub excess : List Bool → ℕ → Constraint → ℤ
excess y first k =
    (sum_of y k.products -ℤ k.bound) -ℤ pos (slack_value y first (slack_weights (slack_range k)))

-- A constraint's terms cost the factor times the square of it. This is what the penalty method
-- rests on, for every state and every factor.
abbrev pub SquaresCost : Type 0
SquaresCost = (y : List Bool) (n first : ℕ) (k : Constraint)
    → terms_cost y (square_terms n (slack_form first k))
    ≡ pos n *ℤ (excess y first k *ℤ excess y first k)

-- N times the products of each term and each. In a square each term meets each, also itself, so
-- pairs of two terms are there twice.
abbrev pub whole_square : ℕ → List Term → List Term
whole_square n ts = flat_map (λ t. products_with (scaled (pos n) t) ts) ts

-- The terms of a square give each set the sum that the whole product of the terms with themselves
-- gives. The layer multiplies out each pair once, with twice the factor, and this says that nothing
-- is lost by it.
abbrev pub SquaresAreProducts : Type 0
SquaresAreProducts = (n width : ℕ) (ts : List Term) → All (λ t. IsLiteralSet width t.0) ts
    → (ls : List Literal)
    → coefficient_of ls (square_terms n ts) ≡ coefficient_of ls (whole_square n ts)

-- What an assignment costs with its penalties is the least energy over the added bits: its extension
-- has it, and no state that begins with the assignment has less.
abbrev pub PricesAreLeast : Type 0
PricesAreLeast = (p : ProblemContent) (x : List Bool) → IsNormal p → length x ≡ p.variables
    → (terms_cost (extension p x) (image p).terms ≡ priced_cost p x)
    × ((y : List Bool) → take p.variables y ≡ x → priced_cost p x ≤ℤ terms_cost y (image p).terms)

-- Where no part has a penalty of its own, the penalties are enough.
abbrev pub GlobalIsEnough : Type 0
GlobalIsEnough = (p : ProblemContent) → IsGlobal p → AreEnough p
