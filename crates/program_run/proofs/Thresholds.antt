-- By what the rows that a least state ends with are chosen.
use Rattle.program_run.proofs.Common.{nat_tests, ints, arith, ◌≡◌, ◌∙◌, ℤ, Bool, List, ◌∷◌, [], ℕ, Option, ap, refl, codes, Cost, Form, HasCost, IsFeasible, decoding_of, optimum_rows, length-read_off, below, above, RowsGoByTheThreshold, Whole}

-- an assignment of a form that is not feasible is told as that
none_whole : (f : Form) (names : Option (List (List ℕ))) (x : List Bool) (c : Cost)
    → ((v : ℤ) → HasCost f x v → IsFeasible f) → f.cost x ≡ c → ((v : ℤ) → f.cost x ≡ Whole v → HasCost f x v)
    → ¬ (IsFeasible f) → optimum_rows x names c ≡ (codes "infeasible" ∷ []) ∷ []
none_whole f names x c some e has never = grind (arith, nat_tests, ints)

pub rows_by_threshold : RowsGoByTheThreshold
rows_by_threshold source demand m names y f l = record {
  at_most = λ under.
      let told = below f y l under in
      (told.cost, told.least, ap (optimum_rows ((decoding_of m).decoded y) names) told.least.has.whole);
  above = λ over.
      let x = (decoding_of m).decoded y in
      none_whole source.form names x (source.form.cost x) (λ v has. (x, v, has)) refl
      (λ v e. record {
        width = length-read_off m y m.kind f.well_formed.kind l.width ∙ f.stated.variables;
        whole = e;
      }) (above f y l over);
}
