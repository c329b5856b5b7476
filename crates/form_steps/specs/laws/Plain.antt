-- *Relaxes* where the unit is 1, with no unit in it. Nothing here has to be believed.
use Rattle.std.specs.Prelude.{◌≡◌, ℤ, pos, ◌+ℤ◌, ◌*ℤ◌, ◌≤ℤ◌, ◌<ℤ◌, Bool, List}
use Rattle.std.proofs.Common.{arith}
use Rattle.std.proofs.lemmas.Int.{ints}
use Rattle.base.specs.declared.costs.Cost.TheVariants.{Whole, Infinite}
use Rattle.base.specs.declared.costs.Figures.{Figures}
use Rattle.base.specs.Costs.{Form, IsOf, energy}
use Rattle.form_steps.specs.Relations.{Decoding, Relaxes, Reaches}

-- what *Relaxes* says where the unit is 1
pub record RelaxesPlainly (f g : Form) (d : Decoding) (n : Figures) : Type 0 where
  pub positive : pos 1 ≤ℤ n.scale
  pub width : (y : List Bool) → IsOf g y → IsOf f (d.decoded y)
  pub bound : (y : List Bool) → IsOf g y → (v : ℤ) → f.cost (d.decoded y) ≡ Whole v
      → (n.scale *ℤ v +ℤ n.offset) ≤ℤ energy g y
  pub above : (y : List Bool) → IsOf g y → f.cost (d.decoded y) ≡ Infinite
      → n.threshold <ℤ energy g y
  pub reached : (x : List Bool) → IsOf f x → (v : ℤ) → f.cost x ≡ Whole v
      → (y : List Bool) × Reaches g d x (n.scale *ℤ v +ℤ n.offset) y
  pub below : (x : List Bool) → IsOf f x → (v : ℤ) → f.cost x ≡ Whole v
      → (n.scale *ℤ v +ℤ n.offset) ≤ℤ n.threshold
  pub onto : (x : List Bool) → IsOf f x → (y : List Bool) × IsOf g y × (d.decoded y ≡ x)

-- a product with 1 is the other factor
pub one-times : (v : ℤ) → pos 1 *ℤ v ≡ v
one-times v = omega (arith, ints)

-- what relaxes plainly relaxes in the unit 1
pub relaxes_in_one : {f g : Form} {d : Decoding} {n : Figures} → RelaxesPlainly f g d n
    → Relaxes f g d (pos 1) n
relaxes_in_one {f} {g} {d} {n} p = record {
  unit = omega (arith, ints);
  positive = p.positive;
  width = p.width;
  bound = λ y w v whole. omega (arith, ints, one-times (energy g y), p.bound y w v whole);
  above = λ y w infinite. omega (arith, ints, one-times (energy g y), p.above y w infinite);
  reached = λ x w v whole.
      let y = p.reached x w v whole in (
        y.0,
        record {
          width = y.1.width;
          decodes = y.1.decodes;
          energy = omega (arith, ints, one-times (energy g y.0), y.1.energy);
        },
      );
  below = p.below;
  onto = p.onto;
}

-- what relaxes in the unit 1 relaxes plainly
pub relaxes_plainly : {f g : Form} {d : Decoding} {n : Figures} → Relaxes f g d (pos 1) n
    → RelaxesPlainly f g d n
relaxes_plainly {f} {g} {d} {n} p = record {
  positive = p.positive;
  width = p.width;
  bound = λ y w v whole. omega (arith, ints, one-times (energy g y), p.bound y w v whole);
  above = λ y w infinite. omega (arith, ints, one-times (energy g y), p.above y w infinite);
  reached = λ x w v whole.
      let y = p.reached x w v whole in (
        y.0,
        record {
          width = y.1.width;
          decodes = y.1.decodes;
          energy = omega (arith, ints, one-times (energy g y.0), y.1.energy);
        },
      );
  below = p.below;
  onto = p.onto;
}
