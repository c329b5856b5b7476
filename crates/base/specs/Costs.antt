-- Costs, and forms that give each list of bits a cost.
use Rattle.std.specs.Prelude.{◌≡◌, ◌≢◌, ℕ, ℤ, pos, Bool, List, length}
use Rattle.base.specs.declared.costs.Cost.{Cost}
use Rattle.base.specs.declared.costs.Cost.TheVariants.{Whole, Infinite}

-- what a form is: how many bits an assignment has, and the cost of each
pub record Form : Type 0 where
  pub bits : ℕ
  pub cost : List Bool → Cost

-- what a text says, in any format: its variables with their costs as written, and an upper bound of
-- the whole ones: the constant, the positive coefficients and the soft weights
pub record Source : Type 0 where
  pub form : Form
  pub upper : ℤ

-- an assignment of a form: a list of as many bits
abbrev pub IsOf : Form → List Bool → Type 0
IsOf f x = length x ≡ f.bits

-- the whole number of a cost, and 0 where it is infinite
abbrev pub whole_of : Cost → ℤ
whole_of (Whole v) = v
whole_of Infinite = pos 0

-- the energy of a state, in a form whose costs are whole
abbrev pub energy : Form → List Bool → ℤ
energy g y = whole_of (g.cost y)

-- no cost of the form is infinite
abbrev pub IsNeverInfinite : Form → Type 0
IsNeverInfinite g = (y : List Bool) → g.cost y ≢ Infinite
