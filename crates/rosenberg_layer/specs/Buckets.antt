-- Terms in lists by their first literals.
use Rattle.std.specs.Prelude.{◌≢◌, ℕ, zero, suc, List, [], ◌∷◌, length, All}
use Rattle.std.specs.List.{slice_index, slice_index_or, sum_by}
use Rattle.rosenberg_layer.specs.declared.buckets.Head.{Head}

-- lists of terms, and how many terms there are room for
pub record TermLists : Type 0 where
  pub lists : List (List ℕ)
  pub room : ℕ

-- so many terms from one on, each of which tells the next
abbrev pub chain : List ℕ → ℕ → ℕ → List ℕ
chain nexts zero at = []
chain nexts (suc n) at = at ∷ chain nexts n (slice_index nexts at)

-- the terms of a list
abbrev pub list_of : List ℕ → Head → List ℕ
list_of nexts head = chain nexts head.count head.first

-- the list at a place
abbrev pub list_at : List (List ℕ) → ℕ → List ℕ
list_at lists b = slice_index_or lists b []

-- how many terms are in lists
abbrev pub listed_count : List (List ℕ) → ℕ
listed_count lists = sum_by (λ (xs : List ℕ). length xs) lists

-- the term is in no list
abbrev pub IsApart : List (List ℕ) → ℕ → Type 0
IsApart lists t = All (λ xs. All (λ x. x ≢ t) xs) lists
