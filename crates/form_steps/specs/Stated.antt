-- The laws of the relations, as statements.
use Rattle.std.specs.Prelude.{◌≡◌, ℤ, pos, ◌+ℤ◌, ◌*ℤ◌, Bool, List}
use Rattle.base.specs.declared.costs.Figures.{Figures}
use Rattle.form_steps.specs.declared.scope.PenaltyScope.{PenaltyScope}
use Rattle.base.specs.Costs.{Form, IsOf}
use Rattle.form_steps.specs.Relations.{Decoding, Keeps, Relaxes, RelaxesAtLeast, RelaxesBy, StaysAbove, Reduces, Rewrites, decoding_after, first_decoded}
use Rattle.base.specs.Figures.{figures_after, figures_moved}

-- what relaxes a form does so at least, and no state of it lies below the whole cost that it decodes
-- to
abbrev pub RelaxesIsAtLeast : Type 0
RelaxesIsAtLeast =
    (f g : Form) (d : Decoding) (u : ℤ) (n : Figures) → Relaxes f g d u n
    → RelaxesAtLeast f g d u n × StaysAbove f g d u n

-- What keeps a form that relaxes a source relaxes the source. This is how a guard and the layers
-- after it become one step: the scales are multiplied, and the offset of the first is scaled by the
-- second.
abbrev pub KeepsAfterRelaxes : Type 0
KeepsAfterRelaxes =
    (scope : PenaltyScope) (f g h : Form) (d e : Decoding) (n : Figures) (a b : ℤ)
    → RelaxesBy scope f g d (pos 1) n → Keeps g h e a b
    → RelaxesBy scope f h (decoding_after d e) (pos 1) (figures_after n a b)

-- and where no state of the form lies below the whole cost that it decodes to, none of what keeps it
-- does
abbrev pub KeepsStaysAbove : Type 0
KeepsStaysAbove =
    (f g h : Form) (d e : Decoding) (n : Figures) (a b : ℤ) → StaysAbove f g d (pos 1) n
    → Keeps g h e a b → StaysAbove f h (decoding_after d e) (pos 1) (figures_after n a b)

-- What keeps a form that keeps another keeps the other. With the scales 4 and 1 and the offsets -3
-- and -10 they come to the scale 4 and the offset -13.
abbrev pub KeepsAfterKeeps : Type 0
KeepsAfterKeeps =
    (f g h : Form) (d e : Decoding) (a1 b1 a2 b2 : ℤ) → Keeps f g d a1 b1 → Keeps g h e a2 b2
    → Keeps f h (decoding_after d e) (a1 *ℤ a2) (a2 *ℤ b1 +ℤ b2)

-- A form that relaxes a source, divided by a unit, relaxes it in this unit. Offset and threshold
-- are moved as the constant is, and stay undivided.
abbrev pub ReducesAfterRelaxes : Type 0
ReducesAfterRelaxes =
    (scope : PenaltyScope) (f g h : Form) (d : Decoding) (n : Figures) (u b : ℤ)
    → RelaxesBy scope f g d (pos 1) n → Reduces g h u b → RelaxesBy scope f h d u (figures_moved n b)

-- and no state of it lies lower, in this unit
abbrev pub ReducesStaysAbove : Type 0
ReducesStaysAbove =
    (f g h : Form) (d : Decoding) (n : Figures) (u b : ℤ) → StaysAbove f g d (pos 1) n
    → Reduces g h u b → StaysAbove f h d u (figures_moved n b)

-- both forms have as many bits, and every assignment the same cost
pub record HasSameCosts (f f' : Form) : Type 0 where
  pub width : f.bits ≡ f'.bits
  pub costs : (x : List Bool) → f.cost x ≡ f'.cost x

-- both decodings give the same for every state of g
abbrev pub DecodesAlike : Form → Decoding → Decoding → Type 0
DecodesAlike g d d' = (y : List Bool) → IsOf g y → d'.decoded y ≡ d.decoded y

-- what relaxes a form relaxes every form with the same costs, by any decoding that agrees
abbrev pub RelaxesAlike : Type 0
RelaxesAlike =
    (scope : PenaltyScope) (f f' g : Form) (d d' : Decoding) (u : ℤ) (n : Figures)
    → HasSameCosts f f' → DecodesAlike g d d' → RelaxesBy scope f g d u n
    → RelaxesBy scope f' g d' u n

-- and no state of it lies lower
abbrev pub StaysAboveAlike : Type 0
StaysAboveAlike =
    (f f' g : Form) (d d' : Decoding) (u : ℤ) (n : Figures) → HasSameCosts f f'
    → DecodesAlike g d d' → StaysAbove f g d u n → StaysAbove f' g d' u n

-- what relaxes a rewritten source relaxes the source, by the first bits of what it decodes to
abbrev pub RelaxesAfterRewrites : Type 0
RelaxesAfterRewrites =
    (scope : PenaltyScope) (f f' g : Form) (d : Decoding) (u : ℤ) (n : Figures) → Rewrites f f'
    → RelaxesBy scope f' g d u n → RelaxesBy scope f g (first_decoded f.bits d) u n
