-- Ising forms whose weights are counted in their greatest unit.
use Rattle.std.specs.Prelude.{ℕ, ℤ, pos, List, map}
use Rattle.base.specs.declared.costs.Figures.{Figures}
use Rattle.bits_model.specs.declared.output.Kind.{Kind}
use Rattle.bits_model.specs.Units.{IsReduced}
use Rattle.quad_form.specs.Units.{unit_of, weights_of, counted_in, entry_in}
use Rattle.ising_form.specs.Isings.{IsingContent}
use Rattle.ising_form.specs.Outputs.{FitsOutput, written_of}

-- The greatest unit of its weights, whatever the constant is. A solver's range of weights is used
-- best where no common factor is left in them.
abbrev pub ising_unit : IsingContent → ℤ
ising_unit f = unit_of (weights_of f.fields f.couplings)

-- its weights, counted in their greatest unit, and no constant
abbrev pub reduced : IsingContent → IsingContent
reduced f = record {
  constant = pos 0;
  fields = map (counted_in (ising_unit f)) f.fields;
  couplings = map (entry_in (ising_unit f)) f.couplings;
}

-- whichever model is written for it, the unit of the model is the greatest
abbrev pub IsReducedAsWritten : IsingContent → ℤ → Type 0
IsReducedAsWritten f unit =
    (variables : ℕ) (figures : Figures) (kind : Kind) (chains : List (List ℕ))
    → FitsOutput kind chains variables f
    → IsReduced (written_of f variables figures unit kind chains)
