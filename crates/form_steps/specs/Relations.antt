-- How the energies of one form stand for the costs of another.
--
-- A form gives each list of bits a cost, which may be infinite; an energy is a cost that never is.
-- `Keeps` is between two forms of energies, `Relaxes` between a form with infinite costs and one
-- without.
use Rattle.std.specs.Prelude.{◌≡◌, ◌⊎◌, ◌≤◌, ℕ, ℤ, pos, ◌+ℤ◌, ◌*ℤ◌, ◌≤ℤ◌, ◌<ℤ◌, Bool, List, take}
use Rattle.base.specs.declared.costs.Cost.TheVariants.{Whole, Infinite}
use Rattle.base.specs.declared.costs.Figures.{Figures}
use Rattle.form_steps.specs.declared.scope.PenaltyScope.{PenaltyScope}
use Rattle.form_steps.specs.declared.scope.PenaltyScope.TheVariants.{Global, Local}
use Rattle.base.specs.Costs.{Form, IsOf, energy}

-- how states of one width are decoded to assignments of another
pub record Decoding : Type 0 where
  pub source_width : ℕ
  pub target_width : ℕ
  pub decoded : List Bool → List Bool

-- the state y decodes to x and has the energy e
pub record Reaches (g : Form) (d : Decoding) (x : List Bool) (e : ℤ) (y : List Bool) : Type 0 where
  -- y is as wide as g's states
  pub width : IsOf g y
  -- it decodes to x
  pub decodes : d.decoded y ≡ x
  -- and its energy is e
  pub energy : energy g y ≡ e

-- g keeps f, with the scale a and the offset b: no state lies below the cost that it decodes to,
-- scaled and moved, and every assignment is reached with equality
pub record Keeps (f g : Form) (d : Decoding) (a b : ℤ) : Type 0 where
  -- the scale is 1 or more, so that a lesser energy stays a lesser one
  pub positive : pos 1 ≤ℤ a
  pub width : (z : List Bool) → IsOf g z → IsOf f (d.decoded z)
  -- no state lies below what it decodes to: with the scale 4 and the offset -3, a state that
  -- decodes to energy 2 has energy 5 or more
  pub bound : (z : List Bool) → IsOf g z → (a *ℤ energy f (d.decoded z) +ℤ b) ≤ℤ energy g z
  -- and some state of each assignment has just that energy, so least states decode to least ones
  pub reached : (y : List Bool) → IsOf f y
      → (z : List Bool) × Reaches g d y (a *ℤ energy f y +ℤ b) z

-- the state y decodes to x, and u times its energy is e
pub record ReachesIn (u : ℤ) (g : Form) (d : Decoding) (x : List Bool) (e : ℤ) (y : List Bool)
    : Type 0 where
  pub width : IsOf g y
  pub decodes : d.decoded y ≡ x
  pub energy : u *ℤ energy g y ≡ e

-- g, whose costs are whole and count u each, relaxes f, whose costs may be infinite: no state lies
-- below the whole cost that it decodes to, scaled and moved, one that decodes to an infinite cost
-- lies above the threshold, every whole cost is reached with equality and lies at most at the
-- threshold, and some state decodes to each assignment
pub record Relaxes (f g : Form) (d : Decoding) (u : ℤ) (n : Figures) : Type 0 where
  -- an energy counts u each: with unit 3 an energy of 2 stands for 6
  pub unit : pos 1 ≤ℤ u
  pub positive : pos 1 ≤ℤ n.scale
  pub width : (y : List Bool) → IsOf g y → IsOf f (d.decoded y)
  -- no state lies below the cost that it decodes to, where that is whole
  pub bound : (y : List Bool) → IsOf g y → (v : ℤ) → f.cost (d.decoded y) ≡ Whole v
      → (n.scale *ℤ v +ℤ n.offset) ≤ℤ (u *ℤ energy g y)
  -- a state that decodes to an infinite cost lies above the threshold
  pub above : (y : List Bool) → IsOf g y → f.cost (d.decoded y) ≡ Infinite
      → n.threshold <ℤ (u *ℤ energy g y)
  -- every whole cost is reached with equality
  pub reached : (x : List Bool) → IsOf f x → (v : ℤ) → f.cost x ≡ Whole v
      → (y : List Bool) × ReachesIn u g d x (n.scale *ℤ v +ℤ n.offset) y
  -- and is at most at the threshold, so the least energy tells whether any cost is whole
  pub below : (x : List Bool) → IsOf f x → (v : ℤ) → f.cost x ≡ Whole v
      → (n.scale *ℤ v +ℤ n.offset) ≤ℤ n.threshold
  -- every assignment is decoded from some state
  pub onto : (x : List Bool) → IsOf f x → (y : List Bool) × IsOf g y × (d.decoded y ≡ x)

-- the cost of x is whole and stands at most at the energy e; or e is above the threshold; or some
-- assignment has a whole cost that stands below e
abbrev pub StandsAt : Form → Figures → List Bool → ℤ → Type 0
StandsAt f n x e =
    ((v : ℤ) × (f.cost x ≡ Whole v) × ((n.scale *ℤ v +ℤ n.offset) ≤ℤ e))
    ⊎ ((n.threshold <ℤ e)
    ⊎ ((x' : List Bool) × (v : ℤ) × IsOf f x' × (f.cost x' ≡ Whole v)
    × ((n.scale *ℤ v +ℤ n.offset) <ℤ e)))

-- g relaxes f, but of a state that decodes to an infinite cost it says less: that it lies above the
-- threshold, or above some whole cost. So least states decode to least assignments all the same
pub record RelaxesAtLeast (f g : Form) (d : Decoding) (u : ℤ) (n : Figures) : Type 0 where
  pub unit : pos 1 ≤ℤ u
  pub positive : pos 1 ≤ℤ n.scale
  pub width : (y : List Bool) → IsOf g y → IsOf f (d.decoded y)
  -- no state lies below the cost that it decodes to, where that is whole, unless it lies above the
  -- threshold or above some whole cost
  pub stands : (y : List Bool) → IsOf g y → StandsAt f n (d.decoded y) (u *ℤ energy g y)
  -- every whole cost is reached with equality
  pub reached : (x : List Bool) → IsOf f x → (v : ℤ) → f.cost x ≡ Whole v
      → (y : List Bool) × ReachesIn u g d x (n.scale *ℤ v +ℤ n.offset) y
  -- and is at most at the threshold
  pub below : (x : List Bool) → IsOf f x → (v : ℤ) → f.cost x ≡ Whole v
      → (n.scale *ℤ v +ℤ n.offset) ≤ℤ n.threshold
  -- every assignment is decoded from some state
  pub onto : (x : List Bool) → IsOf f x → (y : List Bool) × IsOf g y × (d.decoded y ≡ x)

-- no state lies below the cost that it decodes to, where that is whole: the bound of *Relaxes* alone
pub record StaysAbove (f g : Form) (d : Decoding) (u : ℤ) (n : Figures) : Type 0 where
  pub bound : (y : List Bool) → IsOf g y → (v : ℤ) → f.cost (d.decoded y) ≡ Whole v
      → (n.scale *ℤ v +ℤ n.offset) ≤ℤ (u *ℤ energy g y)

-- how g relaxes f, where one penalty is that of the whole problem, and where parts have their own
abbrev pub RelaxesBy : PenaltyScope → (f g : Form) → Decoding → ℤ → Figures → Type 0
RelaxesBy Global f g d u n = Relaxes f g d u n
RelaxesBy Local f g d u n = RelaxesAtLeast f g d u n

-- g relaxes f in each scope that is allowed
abbrev pub RelaxesIn : (PenaltyScope → Type 0) → (f g : Form) → Decoding → ℤ → Figures → Type 0
RelaxesIn Allowed f g d u n = (scope : PenaltyScope) → Allowed scope → RelaxesBy scope f g d u n

-- h is g with its constant moved and its energies divided: u times the energy in h is that in g,
-- and b more
pub record Reduces (g h : Form) (u b : ℤ) : Type 0 where
  pub positive : pos 1 ≤ℤ u
  pub width : h.bits ≡ g.bits
  -- with u = 2 and b = -4, an energy of 10 in g is one of 3 in h
  pub energy : (y : List Bool) → IsOf g y → u *ℤ energy h y ≡ energy g y +ℤ b

-- ---- of a source that is rewritten with more variables

-- the variables of f come first in f': no list costs less in f' than its first bits cost in f, and
-- each whole cost of f is that of a list in f' that begins so
pub record Rewrites (f f' : Form) : Type 0 where
  -- f' has the variables of f, and maybe others after them
  pub more : f.bits ≤ f'.bits
  -- a whole cost in f' is at least the cost in f, which is whole as well
  pub bound : (x : List Bool) → IsOf f' x → (v : ℤ) → f'.cost x ≡ Whole v
      → (w : ℤ) × (f.cost (take f.bits x) ≡ Whole w) × (w ≤ℤ v)
  -- and each whole cost of f is one of f', for some bits of the others
  pub reached : (x : List Bool) → IsOf f x → (v : ℤ) → f.cost x ≡ Whole v
      → (x' : List Bool) × IsOf f' x' × (take f.bits x' ≡ x) × (f'.cost x' ≡ Whole v)

-- the first n bits of what states are decoded to
abbrev pub first_decoded : ℕ → Decoding → Decoding
first_decoded n d = record {
  source_width = n;
  target_width = d.target_width;
  decoded = λ y. take n (d.decoded y);
}

-- ---- of a layer's or a guard's link

-- the decoding takes states of g to assignments of f
pub record Joins (f g : Form) (d : Decoding) : Type 0 where
  pub source : d.source_width ≡ f.bits
  pub target : d.target_width ≡ g.bits

-- y decodes to x, and its energy is the cost of x, scaled and moved
abbrev pub Extends : (f g : Form) → Decoding → (a b : ℤ) → (x y : List Bool) → Type 0
Extends f g d a b x y = Reaches g d x (a *ℤ energy f x +ℤ b) y

-- y decodes to x, no state that does has a lesser energy, and where the cost of x is whole the
-- energy of y is that cost, scaled and moved
pub record ExtendsLeast (f g : Form) (d : Decoding) (n : Figures) (x y : List Bool) : Type 0 where
  pub width : IsOf g y
  pub decodes : d.decoded y ≡ x
  -- where the cost of x is whole, the energy is that cost, scaled and moved
  pub scaled : (v : ℤ) → f.cost x ≡ Whole v → energy g y ≡ n.scale *ℤ v +ℤ n.offset
  -- of all states that decode to x none has a lesser energy
  pub least : (y' : List Bool) → IsOf g y' → d.decoded y' ≡ x → energy g y ≤ℤ energy g y'

-- ---- one step after another

-- the second step's decoding, and then the first's
abbrev pub decoding_after : Decoding → Decoding → Decoding
decoding_after d e = record {
  source_width = d.source_width;
  target_width = e.target_width;
  decoded = λ z. d.decoded (e.decoded z);
}
