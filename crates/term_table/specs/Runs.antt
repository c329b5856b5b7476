-- Runs: terms in order, in which a table keeps what was added to it. A set may stand in several.
use Rattle.std.specs.Prelude.{ℕ, ◌+◌, ◌*◌, ◌<◌, ◌≤◌, ◌^◌, ℤ, pos, unsigned_abs, Bool, true, false, ltb, cond, List, [], ◌∷◌, ◌++◌, length, take, reverse, get_or, All, if◌then◌else◌}
use Rattle.std.specs.List.{flat_map}
use Rattle.std.specs.Ordering.{int_eq}
use Rattle.base.specs.Sums.{total_by}
use Rattle.literal_lists.specs.declared.literal.Literal.{Literal}
use Rattle.term_table.specs.Terms.{Term, with_additions, coefficient_of, AreTerms}

-- terms in order, none of them 0
abbrev pub Run : Type 0
Run = List Term

-- ---- what runs give together

-- the terms of all runs, one run after another
abbrev pub entries : List Run → List Term
entries runs = flat_map (λ run. run) runs

-- the merged view: each set of any run with the sum of its coefficients, in order, without sums
-- of 0
abbrev pub merged_terms : List Run → List Term
merged_terms runs = with_additions [] (entries runs)

-- the sum of a set's coefficients over runs
abbrev pub sum_over : List Literal → List Run → ℤ
sum_over ls runs = total_by (coefficient_of ls) runs

-- ---- settling

-- two runs as one: the sets that stand in either, each with the sum of its coefficients, in order,
-- without sums of 0
abbrev pub merged : Run → Run → Run
merged older newer = with_additions older newer

-- whether a run has no term
abbrev pub is_empty : Run → Bool
is_empty [] = true
is_empty (t ∷ ts) = false

-- twice the last run's length is more than that of the run before it
abbrev pub is_long : Run → Run → Bool
is_long before last = ltb (length before) (2 * length last)

-- settling where the last run stands apart, and those before it are listed the newest first
abbrev pub settled_with : Run → List Run → List Run
settled_with last [] = if is_empty last then [] else last ∷ []
settled_with last (before ∷ older) =
    if is_empty last
    then settled_with before older
    else if is_long before last
    then settled_with (merged before last) older
    else last ∷ before ∷ older

-- settling where all runs are listed the newest first
abbrev pub settled_back : List Run → List Run
settled_back [] = []
settled_back (last ∷ older) = settled_with last older

-- runs, the oldest first, settled from their end: an empty last run is dropped, and a last run that
-- is long is merged with the one before it, until neither can be done
abbrev pub settled : List Run → List Run
settled runs = reverse (settled_back (reverse runs))

-- the runs after an addition: one of the one entry is appended, and all are settled. 0 changes
-- nothing
abbrev pub with_entry : List Run → List Literal → ℤ → List Run
with_entry runs ls c = cond (int_eq c (pos 0)) runs (settled (runs ++ ((ls, c) ∷ []) ∷ []))

-- the runs of terms that are kept at once
abbrev pub one_run : List Term → List Run
one_run [] = []
one_run (t ∷ ts) = (t ∷ ts) ∷ []

-- ---- what a table keeps of its runs

-- each run is terms in order; none is empty; each is at least twice as long as the next; and the
-- coefficients of a set over the first runs, as many as there may be, are small in sum
pub record AreRuns (width : ℕ) (runs : List Run) : Type 0 where
  pub terms : All (AreTerms width) runs
  pub some : All (λ run. 1 ≤ length run) runs
  pub halve : (k : ℕ) → k + 1 < length runs
      → 2 * length (get_or runs (k + 1) []) ≤ length (get_or runs k [])
  pub small : (ls : List Literal) (k : ℕ) → unsigned_abs (sum_over ls (take k runs)) ≤ 2 ^ 124
