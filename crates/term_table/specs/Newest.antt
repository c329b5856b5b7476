-- Runs that are settled, and those that are gone through together.
use Rattle.std.specs.Prelude.{◌≢◌, ℕ, ◌≤◌, ◌^◌, pos, unsigned_abs, List, [], ◌∷◌, ◌++◌, All}
use Rattle.std.specs.List.{AllByRecursion}
use Rattle.literal_lists.specs.declared.literal.Literal.{Literal}
use Rattle.term_table.specs.Terms.{Ascends}
use Rattle.term_table.specs.Runs.{Run, sum_over, AreRuns}

-- each run is in order, and has no 0
abbrev pub AreOrdered : List Run → Type 0
AreOrdered rs = AllByRecursion (λ r. Ascends r × All (λ t. t.1 ≢ pos 0) r) rs

-- a table's runs, and one more that they can be settled with: it is in order, has no 0, and with it the
-- coefficients of each set are small in sum
pub record AreSettling (runs : List Run) (last : Run) : Type 0 where
  pub width : ℕ
  pub kept : AreRuns width runs
  pub up : Ascends last
  pub some : All (λ t. t.1 ≢ pos 0) last
  pub small : (ls : List Literal) → unsigned_abs (sum_over ls (runs ++ last ∷ [])) ≤ 2 ^ 124
