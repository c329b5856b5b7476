-- What the least states of a form say of the least assignments of another.
use Rattle.std.specs.Prelude.{◌≡◌, ◌↔◌, ℤ, ◌+ℤ◌, ◌*ℤ◌, ◌<ℤ◌, Bool, List}
use Rattle.base.specs.declared.costs.Figures.{Figures}
use Rattle.base.specs.Costs.{Form, energy}
use Rattle.form_steps.specs.Relations.{Decoding}
use Rattle.form_steps.specs.Least.{IsFeasible, IsLeast, IsLeastAt, IsLeastState}

-- the least states of g, whose energies count u each, are the least assignments of f
pub record StandsAtLeast (f g : Form) (d : Decoding) (u : ℤ) (n : Figures) : Type 0 where
  -- where f is feasible: exactly the least assignments are decoded from least states
  pub exact : IsFeasible f → (x : List Bool)
      → IsLeast f x ↔ ((y : List Bool) × IsLeastState g y × (d.decoded y ≡ x))
  pub decodes : IsFeasible f → (y : List Bool) → IsLeastState g y → IsLeast f (d.decoded y)
  -- unit times the least energy is scale times the least cost, and offset
  pub least_energy : (x : List Bool) (v : ℤ) (y : List Bool) → IsLeastAt f x v → IsLeastState g y
      → u *ℤ energy g y ≡ n.scale *ℤ v +ℤ n.offset
  -- infeasible exactly where unit times the least energy is above the threshold
  pub infeasible : ¬ (IsFeasible f)
      ↔ ((y : List Bool) × IsLeastState g y × (n.threshold <ℤ (u *ℤ energy g y)))
