-- States that extend an assignment, where the source is rewritten with more variables.
use Rattle.std.specs.Prelude.{◌≡◌, ℤ, ◌+ℤ◌, ◌*ℤ◌, ◌≤ℤ◌, Bool, List, take}
use Rattle.base.specs.declared.costs.Cost.TheVariants.{Whole}
use Rattle.base.specs.declared.costs.Figures.{Figures}
use Rattle.base.specs.Costs.{Form, IsOf, energy}
use Rattle.form_steps.specs.Relations.{Decoding, Relaxes, Rewrites, first_decoded}

-- the state y decodes to x, and where the cost of x is whole, u times the energy of y is that cost,
-- scaled and moved, and no state that decodes to x has a lesser energy
pub record ExtendsWhole (f g : Form) (d : Decoding) (u : ℤ) (n : Figures) (x y : List Bool)
    : Type 0 where
  pub width : IsOf g y
  pub decodes : d.decoded y ≡ x
  pub scaled : (v : ℤ) → f.cost x ≡ Whole v → u *ℤ energy g y ≡ n.scale *ℤ v +ℤ n.offset
  pub least : (v : ℤ) → f.cost x ≡ Whole v → (y' : List Bool) → IsOf g y' → d.decoded y' ≡ x
      → energy g y ≤ℤ energy g y'

-- what extends a list of a form extends its first bits in the form that it rewrites, where both
-- cost the same
abbrev pub ExtendsAfterRewrites : Type 0
ExtendsAfterRewrites =
    (f f' g : Form) (d : Decoding) (u : ℤ) (n : Figures) (x' y : List Bool) → Rewrites f f'
    → Relaxes f' g d u n → IsOf g y → d.decoded y ≡ x' → f'.cost x' ≡ f.cost (take f.bits x')
    → ((v : ℤ) → f'.cost x' ≡ Whole v → u *ℤ energy g y ≡ n.scale *ℤ v +ℤ n.offset)
    → ExtendsWhole f g (first_decoded f.bits d) u n (take f.bits x') y
