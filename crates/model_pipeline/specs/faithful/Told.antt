-- What a least state of a model tells of its source.
use Rattle.std.specs.Prelude.{◌≡◌, ℤ, ◌+ℤ◌, ◌*ℤ◌, Bool, List}
use Rattle.base.specs.Costs.{Source, energy}
use Rattle.form_steps.specs.Least.{IsLeastAt}
use Rattle.bits_model.specs.Output.{Written, form_of, decoding_of}

-- the energy of a state, in units of 1
abbrev pub whole_energy : Written → List Bool → ℤ
whole_energy m y = m.unit *ℤ energy (form_of m) y

-- y decodes to a least assignment, whose cost unit times the energy tells
pub record TellsOptimum (source : Source) (m : Written) (y : List Bool) : Type 0 where
  pub cost : ℤ
  pub least : IsLeastAt source.form ((decoding_of m).decoded y) cost
  pub energy : whole_energy m y ≡ m.figures.scale *ℤ cost +ℤ m.figures.offset
