-- The first least state of a form.
use Rattle.std.specs.Prelude.{◌≢◌, ℕ, zero, suc, ℤ, int_lt, List, [], ◌∷◌, ◌++◌, Bool, true, false}
use Rattle.std.specs.Int.{int_min}
use Rattle.std.specs.Ordering.{bool_cmp}
use Rattle.std.specs.Cmp.Lexicographic.{slice_cmp}
use Rattle.std.specs.declared.cmp.Ordering.TheVariants.{Greater}
use Rattle.base.specs.Costs.{Form}
use Rattle.form_steps.specs.Least.{IsLeastState}

-- no state has a lesser energy, and no other that has none comes before it, where states are
-- compared from node 0 on, and 0 comes before 1
pub record IsFirstLeast (g : Form) (y : List Bool) : Type 0 where
  pub least : IsLeastState g y
  pub first : (y' : List Bool) → IsLeastState g y' → slice_cmp bool_cmp y y' ≢ Greater

-- ---- fronts of states

-- the least value of g over the lists that go on for n bits after a front
abbrev pub least_after : ℕ → (List Bool → ℤ) → List Bool → ℤ
least_after zero g y = g y
least_after (suc n) g y =
    int_min (least_after n g (y ++ false ∷ [])) (least_after n g (y ++ true ∷ []))

-- the bit after a front that promises less, and 0 where both promise the same
abbrev pub chosen : ℕ → (List Bool → ℤ) → List Bool → Bool
chosen n g y = int_lt (least_after n g (y ++ true ∷ [])) (least_after n g (y ++ false ∷ []))

-- n bits after a front, each of them chosen after those before it
abbrev pub choices : ℕ → (List Bool → ℤ) → List Bool → List Bool
choices zero g y = []
choices (suc n) g y = chosen n g y ∷ choices n g (y ++ chosen n g y ∷ [])
