-- By what the rows that a least state ends with are chosen, as a statement.
use Rattle.std.specs.Prelude.{◌≡◌, ℤ, ◌≤ℤ◌, ◌<ℤ◌, Bool, List, ◌∷◌, [], codes, ℕ, Option}
use Rattle.base.specs.declared.costs.Cost.TheVariants.{Whole}
use Rattle.base.specs.Costs.{Source}
use Rattle.form_steps.specs.Least.{IsLeastAt, IsLeastState}
use Rattle.bits_model.specs.Output.{Written, decoding_of, form_of}
use Rattle.model_pipeline.specs.faithful.Faithful.{Demand, Faithful}
use Rattle.model_pipeline.specs.faithful.Told.{whole_energy}
use Rattle.model_text.specs.Rows.{Row}
use Rattle.answer_text.specs.Answers.{optimum_rows}

-- the rows that a state of the model ends with: `assignment` and `optimum`, or `infeasible`
abbrev pub end_rows : Source → Written → Option (List (List ℕ)) → List Bool → List Row
end_rows source m names y =
    optimum_rows ((decoding_of m).decoded y) names (source.form.cost ((decoding_of m).decoded y))

-- where unit times the energy of a least state is at most the threshold, its rows are a least
-- assignment and the optimum; where it is above, they are `infeasible`
pub record GoesByTheThreshold (source : Source) (m : Written) (names : Option (List (List ℕ)))
    (y : List Bool) : Type 0 where
  pub at_most : whole_energy m y ≤ℤ m.figures.threshold
      → (v : ℤ) × IsLeastAt source.form ((decoding_of m).decoded y) v
      × (end_rows source m names y ≡ optimum_rows ((decoding_of m).decoded y) names (Whole v))
  pub above : m.figures.threshold <ℤ whole_energy m y
      → end_rows source m names y ≡ (codes "infeasible" ∷ []) ∷ []

-- so do the rows of each least state of a model that is faithful to its source
abbrev pub RowsGoByTheThreshold : Type 0
RowsGoByTheThreshold =
    (source : Source) (demand : Demand) (m : Written) (names : Option (List (List ℕ)))
    (y : List Bool) → Faithful source demand m → IsLeastState (form_of m) y
    → GoesByTheThreshold source m names y
