-- A source of hard and soft constraints, in normal form, and what its assignments cost.
use Rattle.std.specs.Prelude.{◌≡◌, ◌≢◌, ℕ, ◌+◌, ◌<◌, ◌^◌, pos, nat_le, Bool, false, not, ◌||◌, List, length, Option, Some, None, unwrap_or, All, count_by, if◌then◌else◌}
use Rattle.std.specs.List.{list_any, sum_by}
use Rattle.base.specs.declared.costs.Cost.{Cost}
use Rattle.base.specs.declared.costs.Cost.TheVariants.{Whole, Infinite}
use Rattle.base.specs.Costs.{Form}
use Rattle.problem_form.specs.declared.terms.Constraint.{Constraint}
use Rattle.problem_form.specs.Problems.{fails, constraint_total, IsNormalProduct}
use Rattle.wbo_reader.specs.declared.soft.Soft.{Soft}

-- variables, the constraints that are to hold, those that have a weight, the cost that is infinite
-- where one is given, and which of the two kinds each constraint of the text is: true for soft
pub record WboContent : Type 0 where
  pub variables : ℕ
  pub hard : List Constraint
  pub soft : List Soft
  pub top : Option ℕ
  pub order : List Bool

-- ---- its cost

-- the weight of a soft constraint that fails
abbrev pub paid_for : List Bool → Soft → ℕ
paid_for x s = if fails x s.constraint then s.weight else 0

-- the sum of the weights of those that fail
abbrev pub paid : List Bool → List Soft → ℕ
paid x soft = sum_by (paid_for x) soft

-- the sum is the top or more, where there is one
abbrev pub reaches_top : Option ℕ → ℕ → Bool
reaches_top None sum = false
reaches_top (Some top) sum = nat_le top sum

-- infinite where a hard constraint fails, or where the weights of the failing soft ones sum to the
-- top or more; else this sum
abbrev pub wbo_cost : WboContent → List Bool → Cost
wbo_cost s x =
    if list_any (fails x) s.hard || reaches_top s.top (paid x s.soft)
    then Infinite
    else Whole (pos (paid x s.soft))

-- the source as a form: its bits and its cost
abbrev pub form_of : WboContent → Form
form_of s = record { bits = s.variables; cost = wbo_cost s }

-- ---- what it keeps

-- all products of the constraint are in normal form
abbrev pub IsNormalConstraint : ℕ → Constraint → Type 0
IsNormalConstraint variables k = All (IsNormalProduct variables) k.products

-- the sizes of a soft constraint's numbers
abbrev pub soft_total : Soft → ℕ
soft_total s = s.weight + constraint_total s.constraint

-- the sum of the sizes of all numbers
abbrev pub wbo_total : WboContent → ℕ
wbo_total s = sum_by constraint_total s.hard + sum_by soft_total s.soft + unwrap_or s.top 0

-- all constraints are in normal form
pub record IsNormalSource (s : WboContent) : Type 0 where
  pub hard : All (IsNormalConstraint s.variables) s.hard
  pub soft : All (λ k. IsNormalConstraint s.variables k.constraint) s.soft

-- normal form, weights and a top that are not 0, as many constraints of each kind as the order
-- says, and sizes that sum to below 2^90
pub record IsWbo (s : WboContent) : Type 0 where
  pub normal : IsNormalSource s
  pub weighty : All (λ (k : Soft). 0 < k.weight) s.soft
  pub top : s.top ≢ Some 0
  pub hard_count : count_by not s.order ≡ length s.hard
  pub soft_count : count_by (λ b. b) s.order ≡ length s.soft
  pub small : wbo_total s < 2 ^ 90
  pub narrow : s.variables + length s.soft < 2 ^ 64
