-- Least assignments of a source, least states of a model, and steps that keep least states alone.
use Rattle.std.specs.Prelude.{◌≡◌, ℤ, pos, ◌+ℤ◌, ◌*ℤ◌, ◌≤ℤ◌, Bool, List}
use Rattle.base.specs.declared.costs.Cost.TheVariants.{Whole}
use Rattle.base.specs.Costs.{Form, IsOf, energy}
use Rattle.form_steps.specs.Relations.{Decoding, Reaches}

-- the assignment x has the whole cost v
pub record HasCost (f : Form) (x : List Bool) (v : ℤ) : Type 0 where
  pub width : IsOf f x
  pub whole : f.cost x ≡ Whole v

-- some assignment has a whole cost
abbrev pub IsFeasible : Form → Type 0
IsFeasible f = (x : List Bool) × (v : ℤ) × HasCost f x v

-- x has the whole cost v, and no assignment has a lesser one
pub record IsLeastAt (f : Form) (x : List Bool) (v : ℤ) : Type 0 where
  pub has : HasCost f x v
  pub least : (x' : List Bool) (w : ℤ) → HasCost f x' w → v ≤ℤ w

-- the cost of x is whole, and no assignment has a lesser one
abbrev pub IsLeast : Form → List Bool → Type 0
IsLeast f x = (v : ℤ) × IsLeastAt f x v

-- no state has a lesser energy than y
pub record IsLeastState (g : Form) (y : List Bool) : Type 0 where
  pub width : IsOf g y
  pub least : (y' : List Bool) → IsOf g y' → energy g y ≤ℤ energy g y'

-- h keeps the least states of g, with the scale a and the offset b: least states decode to least
-- states, the least energy is scaled and moved, and every state of g is reached with equality
pub record KeepsLeast (g h : Form) (d : Decoding) (a b : ℤ) : Type 0 where
  pub positive : pos 1 ≤ℤ a
  pub decodes : (z : List Bool) → IsLeastState h z → IsLeastState g (d.decoded z)
  pub least : (y z : List Bool) → IsLeastState g y → IsLeastState h z
      → energy h z ≡ a *ℤ energy g y +ℤ b
  pub reached : (y : List Bool) → IsOf g y
      → (z : List Bool) × Reaches h d y (a *ℤ energy g y +ℤ b) z
