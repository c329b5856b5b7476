-- The laws of the promise, as statements.
use Rattle.std.specs.Prelude.{◌<◌, ◌^◌, ℤ, pos, ◌≤ℤ◌, ◌<ℤ◌, unsigned_abs, Bool, List}
use Rattle.base.specs.declared.costs.Figures.{Figures}
use Rattle.base.specs.Costs.{Form, Source, energy}
use Rattle.base.specs.Figures.{figures_after, figures_moved}
use Rattle.form_steps.specs.declared.scope.PenaltyScope.{PenaltyScope}
use Rattle.form_steps.specs.Relations.{Decoding, RelaxesBy, Reduces, Rewrites, decoding_after, first_decoded}
use Rattle.bits_model.specs.Output.{Written, IsWellFormed, form_of, decoding_of}
use Rattle.form_steps.specs.Least.{IsFeasible, IsLeastState, KeepsLeast}
use Rattle.model_pipeline.specs.faithful.AtLeast.{StandsAtLeast}
use Rattle.model_pipeline.specs.faithful.Bounds.{IsBounded}
use Rattle.model_pipeline.specs.faithful.Faithful.{Demand, Faithful, IsStated}
use Rattle.model_pipeline.specs.faithful.Told.{TellsOptimum, whole_energy}

-- ---- of models

-- a well-formed model whose least states are the least assignments of the source, with what is
-- stated, is faithful to it
abbrev pub StandingIsFaithful : Type 0
StandingIsFaithful = (source : Source) (demand : Demand) (m : Written) → IsWellFormed m
    → IsStated source demand m
    → StandsAtLeast source.form (form_of m) (decoding_of m) m.unit m.figures
    → Faithful source demand m

-- a well-formed model that relaxes the source in some scope, with what is stated, is faithful to it
abbrev pub RelaxedIsFaithful : Type 0
RelaxedIsFaithful = (scope : PenaltyScope) (source : Source) (demand : Demand) (m : Written)
    → IsWellFormed m → IsStated source demand m
    → RelaxesBy scope source.form (form_of m) (decoding_of m) m.unit m.figures
    → Faithful source demand m

-- every energy of a bounded model is below 2 ^ 121 in size
abbrev pub EnergiesAreBounded : Type 0
EnergiesAreBounded =
    (m : Written) → IsBounded m → (y : List Bool) → unsigned_abs (energy (form_of m) y) < 2 ^ 121

-- ---- of least states

-- a least state of a model that is faithful to its source decodes to a least assignment where it
-- does not lie above the threshold, and else the source is infeasible
abbrev pub LeastStatesTell : Type 0
LeastStatesTell =
    (source : Source) (demand : Demand) (m : Written) (y : List Bool) → Faithful source demand m
    → IsLeastState (form_of m) y
    → (whole_energy m y ≤ℤ m.figures.threshold → TellsOptimum source m y)
    × (m.figures.threshold <ℤ whole_energy m y → ¬ (IsFeasible source.form))

-- the least states of what relaxes a source, in each scope, are its least assignments
abbrev pub RelaxedStandsAtLeast : Type 0
RelaxedStandsAtLeast =
    (scope : PenaltyScope) (f g : Form) (d : Decoding) (u : ℤ) (n : Figures)
    → RelaxesBy scope f g d u n → StandsAtLeast f g d u n

-- so are those of what keeps the least states of such a form
abbrev pub LeastAfterLeast : Type 0
LeastAfterLeast =
    (f g h : Form) (d e : Decoding) (n : Figures) (a b : ℤ) → StandsAtLeast f g d (pos 1) n
    → KeepsLeast g h e a b
    → StandsAtLeast f h (decoding_after d e) (pos 1) (figures_after n a b)

-- and those of such a form divided by a unit, in this unit
abbrev pub ReducesAfterLeast : Type 0
ReducesAfterLeast =
    (f g h : Form) (d : Decoding) (n : Figures) (u b : ℤ) → StandsAtLeast f g d (pos 1) n
    → Reduces g h u b → StandsAtLeast f h d u (figures_moved n b)

-- where they are the least assignments of a rewritten source, their first bits are those of the
-- source
abbrev pub LeastAfterRewrites : Type 0
LeastAfterRewrites =
    (f f' g : Form) (d : Decoding) (u : ℤ) (n : Figures) → Rewrites f f'
    → StandsAtLeast f' g d u n → StandsAtLeast f g (first_decoded f.bits d) u n
