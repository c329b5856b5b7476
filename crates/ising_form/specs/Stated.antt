-- What a written model says of the form that it is made of.
use Rattle.std.specs.Prelude.{◌≡◌, ◌⊎◌, ℕ, ℤ, pos, ◌≤ℤ◌, Bool, List}
use Rattle.base.specs.declared.costs.Figures.{Figures}
use Rattle.bits_model.specs.declared.output.Kind.{Kind}
use Rattle.base.specs.Costs.{Form}
use Rattle.form_steps.specs.declared.scope.PenaltyScope.{PenaltyScope}
use Rattle.form_steps.specs.Relations.{Decoding, RelaxesBy, StaysAbove}
use Rattle.bits_model.specs.Output.{IsWellFormed, read_off}
use Rattle.quad_form.specs.Stated.{RelaxesAsWritten, StaysAsWritten}
use Rattle.ising_form.specs.Isings.{IsingContent, IsIsing, form_of}
use Rattle.ising_form.specs.Outputs.{FitsOutput, written_of}

-- The model of an Ising form is well formed, for each kind that it fits. So a reader of models
-- accepts its text.
abbrev pub WrittenIsWellFormed : Type 0
WrittenIsWellFormed = (f : IsingContent) (variables : ℕ) (figures : Figures) (unit : ℤ) (kind : Kind)
    (chains : List (List ℕ)) → IsIsing f → FitsOutput kind chains variables f
    → pos 1 ≤ℤ figures.scale → pos 1 ≤ℤ unit
    → IsWellFormed (written_of f variables figures unit kind chains)

-- where the form relaxes a source in a unit, and its states decode to what is read off the model, the
-- model does too; the unit is 1, or the form has no constant
abbrev pub WrittenRelaxes : Type 0
WrittenRelaxes = (scope : PenaltyScope) (source : Form) (f : IsingContent) (d : Decoding)
    (variables : ℕ) (figures : Figures) (unit : ℤ) (kind : Kind) (chains : List (List ℕ))
    → FitsOutput kind chains variables f → (unit ≡ pos 1) ⊎ (f.constant ≡ pos 0)
    → ((y : List Bool) → d.decoded y ≡ read_off kind variables chains y)
    → RelaxesBy scope source (form_of f) d unit figures
    → RelaxesAsWritten scope source (written_of f variables figures unit kind chains)

-- and where no state of the form lies below the whole cost that it decodes to, none of its model does
abbrev pub WrittenStaysAbove : Type 0
WrittenStaysAbove = (source : Form) (f : IsingContent) (d : Decoding) (variables : ℕ)
    (figures : Figures) (unit : ℤ) (kind : Kind) (chains : List (List ℕ))
    → FitsOutput kind chains variables f → (unit ≡ pos 1) ⊎ (f.constant ≡ pos 0)
    → ((y : List Bool) → d.decoded y ≡ read_off kind variables chains y)
    → StaysAbove source (form_of f) d unit figures
    → StaysAsWritten source (written_of f variables figures unit kind chains)
