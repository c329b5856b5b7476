-- What a written model says of the form that it is made of.
use Rattle.std.specs.Prelude.{◌≡◌, ◌≤◌, ◌⊎◌, ℕ, ℤ, pos, ◌≤ℤ◌, Bool, List, length, take}
use Rattle.base.specs.declared.costs.Figures.{Figures}
use Rattle.base.specs.Costs.{Form}
use Rattle.form_steps.specs.declared.scope.PenaltyScope.{PenaltyScope}
use Rattle.form_steps.specs.Relations.{Decoding, RelaxesBy, StaysAbove}
use Rattle.bits_model.specs.Output.{Written, IsWellFormed, decoding_of}
use Rattle.bits_model.specs.Output as output
use Rattle.quad_form.specs.Quads.{QuadContent, IsQuad, form_of, written_of}

-- The model of a quadratic form is well formed. So a reader of models accepts its text.
abbrev pub WrittenIsWellFormed : Type 0
WrittenIsWellFormed = (q : QuadContent) (variables : ℕ) (figures : Figures) (unit : ℤ) → IsQuad q
    → variables ≤ length q.diagonal → pos 1 ≤ℤ figures.scale → pos 1 ≤ℤ unit
    → IsWellFormed (written_of q variables figures unit)

-- a model relaxes a source in its own unit, with its own figures
abbrev pub RelaxesAsWritten : PenaltyScope → Form → Written → Type 0
RelaxesAsWritten scope source m =
    RelaxesBy scope source (output.form_of m) (decoding_of m) m.unit m.figures

-- and no state of it lies below the whole cost that it decodes to
abbrev pub StaysAsWritten : Form → Written → Type 0
StaysAsWritten source m = StaysAbove source (output.form_of m) (decoding_of m) m.unit m.figures

-- Where the form relaxes a source in a unit, and its states decode to their first bits, its model
-- does too; the unit is 1, or the form has no constant. This is what links the form in memory to
-- the text that is written.
abbrev pub WrittenRelaxes : Type 0
WrittenRelaxes = (scope : PenaltyScope) (source : Form) (q : QuadContent) (d : Decoding)
    (variables : ℕ) (figures : Figures) (unit : ℤ) → (unit ≡ pos 1) ⊎ (q.constant ≡ pos 0)
    → ((y : List Bool) → d.decoded y ≡ take variables y)
    → RelaxesBy scope source (form_of q) d unit figures
    → RelaxesAsWritten scope source (written_of q variables figures unit)

-- And where no state of the form lies below the whole cost that it decodes to, none of its model
-- does.
abbrev pub WrittenStaysAbove : Type 0
WrittenStaysAbove = (source : Form) (q : QuadContent) (d : Decoding) (variables : ℕ)
    (figures : Figures) (unit : ℤ) → (unit ≡ pos 1) ⊎ (q.constant ≡ pos 0)
    → ((y : List Bool) → d.decoded y ≡ take variables y)
    → StaysAbove source (form_of q) d unit figures
    → StaysAsWritten source (written_of q variables figures unit)
