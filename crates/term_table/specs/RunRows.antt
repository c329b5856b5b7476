-- Small cases of runs: what a few additions leave.
use Rattle.std.specs.Prelude.{◌≡◌, ℕ, ℤ, pos, negsuc, false, List, [], ◌∷◌}
use Rattle.term_table.specs.Terms.{Term}
use Rattle.term_table.specs.Runs.{Run, merged_terms, with_entry}

-- the coefficient on the set of one variable
abbrev pub entry_of : ℕ → ℤ → Term
entry_of n c = (record { variable = n; negated = false } ∷ [], c)

-- the runs after an addition to the coefficient of this set
abbrev pub added : List Run → ℕ → ℤ → List Run
added runs n c = let t = entry_of n c in with_entry runs t.0 t.1

-- two sets, one after the other
abbrev pub two : List Run
two = added (added [] 5 (pos 1)) 3 (pos 2)

-- and a third one
abbrev pub three : List Run
three = added two 4 (pos 7)

-- three different sets stand in two runs
abbrev pub ThreeSets : Type 0
ThreeSets = three ≡ (entry_of 3 (pos 2) ∷ entry_of 5 (pos 1) ∷ []) ∷ (entry_of 4 (pos 7) ∷ []) ∷ []

-- which are merged as they are gone through
abbrev pub ThreeTerms : Type 0
ThreeTerms = merged_terms three ≡ entry_of 3 (pos 2) ∷ entry_of 4 (pos 7) ∷ entry_of 5 (pos 1) ∷ []

-- four different sets stand in one run
abbrev pub FourSets : Type 0
FourSets = added three 9 (pos 6)
    ≡ (entry_of 3 (pos 2) ∷ entry_of 4 (pos 7) ∷ entry_of 5 (pos 1) ∷ entry_of 9 (pos 6) ∷ []) ∷ []

-- a set of an older run stays there, and stands in a second one
abbrev pub SameSet : Type 0
SameSet = added two 5 (pos 7)
    ≡ (entry_of 3 (pos 2) ∷ entry_of 5 (pos 1) ∷ []) ∷ (entry_of 5 (pos 7) ∷ []) ∷ []

-- its two coefficients are summed as they are gone through
abbrev pub SameTerm : Type 0
SameTerm = merged_terms (added two 5 (pos 7)) ≡ entry_of 3 (pos 2) ∷ entry_of 5 (pos 8) ∷ []

-- a run that becomes empty is dropped, and the others stay
abbrev pub EmptyRun : Type 0
EmptyRun = added three 4 (negsuc 6) ≡ (entry_of 3 (pos 2) ∷ entry_of 5 (pos 1) ∷ []) ∷ []

-- the last of all runs can go
abbrev pub LastRun : Type 0
LastRun = added (added [] 5 (pos 1)) 5 (negsuc 0) ≡ []

-- 0 changes nothing
abbrev pub ZeroAdded : Type 0
ZeroAdded = added three 4 (pos 0) ≡ three
