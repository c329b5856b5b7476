-- Laws of runs: what merging and settling give, what they keep, and how many runs a table has.
use Rattle.std.specs.Prelude.{◌≡◌, ℕ, ◌*◌, ◌<◌, ◌≤◌, ◌^◌, ◌+ℤ◌, unsigned_abs, List, [], ◌∷◌, ◌++◌, length, get_or, All}
use Rattle.literal_lists.specs.declared.literal.Literal.{Literal}
use Rattle.term_table.specs.Terms.{Term, coefficient_of, AreTerms}
use Rattle.term_table.specs.Runs.{Run, merged_terms, sum_over, merged, settled, AreRuns}

-- ---- merging

-- merging gives each set the sum of its coefficients in the two runs
abbrev pub MergingSums : Type 0
MergingSums = (ls : List Literal) (older newer : Run)
    → coefficient_of ls (merged older newer) ≡ coefficient_of ls older +ℤ coefficient_of ls newer

-- what is merged is in order, and has no 0
abbrev pub MergingKeepsTerms : Type 0
MergingKeepsTerms = (width : ℕ) (older newer : Run) → AreTerms width older → AreTerms width newer
    → AreTerms width (merged older newer)

-- ---- settling, from the end of the list

-- an empty last run is dropped, and the rest is settled
abbrev pub SettlingDrops : Type 0
SettlingDrops = (runs : List Run) → settled (runs ++ [] ∷ []) ≡ settled runs

-- where twice the last run's length is more than that of the run before it, the two are replaced by
-- their merging, and the result is settled
abbrev pub SettlingMerges : Type 0
SettlingMerges = (runs : List Run) (before last : Run) → length before < 2 * length last
    → settled ((runs ++ before ∷ []) ++ last ∷ []) ≡ settled (runs ++ merged before last ∷ [])

-- else the list stays as it is
abbrev pub SettlingStays : Type 0
SettlingStays = (runs : List Run) (before last : Run) → 1 ≤ length last
    → 2 * length last ≤ length before
    → settled ((runs ++ before ∷ []) ++ last ∷ []) ≡ (runs ++ before ∷ []) ++ last ∷ []

-- a run alone stays, unless it is empty
abbrev pub SettlingEnds : Type 0
SettlingEnds = (last : Run) → 1 ≤ length last → settled (last ∷ []) ≡ last ∷ []

-- settling changes no set's sum
abbrev pub SettlingKeepsSums : Type 0
SettlingKeepsSums = (ls : List Literal) (runs : List Run)
    → sum_over ls (settled runs) ≡ sum_over ls runs

-- ---- a table's runs

-- the coefficient of a set in the merged view is the sum over the runs
abbrev pub MergedViewSums : Type 0
MergedViewSums = (ls : List Literal) (runs : List Run)
    → coefficient_of ls (merged_terms runs) ≡ sum_over ls runs

-- there are at most 64 runs, where the oldest is a list that a computer can hold
abbrev pub RunsAreFew : Type 0
RunsAreFew = (width : ℕ) (runs : List Run) → AreRuns width runs
    → length (get_or runs 0 []) < 2 ^ 64 → length runs ≤ 64

-- each entry of a run is at most 2^125 in size
abbrev pub EntriesAreSmall : Type 0
EntriesAreSmall = (width : ℕ) (runs : List Run) → AreRuns width runs
    → All (λ run. All (λ (t : Term). unsigned_abs t.1 ≤ 2 ^ 125) run) runs
