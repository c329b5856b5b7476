-- Couplers that were gathered in any order, and the couplers of a form that stand for them.
use Rattle.std.specs.Prelude.{◌≡◌, ◌≢◌, ℕ, ◌<◌, ◌≤◌, ◌==◌, ℤ, pos, ◌+ℤ◌, ◌&&◌, List, [], ◌∷◌, ◌++◌, All, if◌then◌else◌}
use Rattle.std.specs.List.{slice_index_or}
use Rattle.std.specs.List.Sorted.{IsStrictlySortedBy}
use Rattle.std.specs.Ordering.{int_eq}
use Rattle.base.specs.Sums.{total_by, if_so}
use Rattle.bits_model.specs.declared.output.Entry.{Entry}
use Rattle.bits_model.specs.Output.{entry_cmp, weight_total}
use Rattle.bits_model.specs.PairNumbers.{pair_number}

-- a pair of the first n nodes
pub record IsPair (n : ℕ) (e : Entry) : Type 0 where
  pub upward : e.first < e.second
  pub within : e.second < n

-- an entry of a list
abbrev pub entry_at : List Entry → ℕ → Entry
entry_at es i = slice_index_or es i (record { first = 0; second = 0; weight = pos 0 })

-- the weight is not 0
abbrev pub IsNonzero : Entry → Type 0
IsNonzero e = e.weight ≢ pos 0

-- the weight of an entry of this pair, and 0 of one of another
abbrev pub weight_for : ℕ → ℕ → Entry → ℤ
weight_for i j e = if_so ((i == e.first) && (j == e.second)) e.weight

-- the sum of the weights that entries have for a pair
abbrev pub weight_at : ℕ → ℕ → List Entry → ℤ
weight_at i j es = total_by (weight_for i j) es

-- ---- equal neighbours as one

-- an entry with more weight
abbrev pub heavier : Entry → ℤ → Entry
heavier e c = record e { weight = e.weight +ℤ c }

-- an entry before others, unless its weight is 0
abbrev pub entry_in_front : Entry → List Entry → List Entry
entry_in_front e es = if int_eq e.weight (pos 0) then es else e ∷ es

-- entries after a first one, with those of one pair that stand side by side as one
abbrev pub sums_from : Entry → List Entry → List Entry
sums_from e [] = entry_in_front e []
sums_from e (f ∷ fs) =
    if pair_number e == pair_number f
    then sums_from (heavier e f.weight) fs
    else entry_in_front e (sums_from f fs)

-- neighbours of one pair as one entry with their sum, and none of weight 0
abbrev pub sums_of : List Entry → List Entry
sums_of [] = []
sums_of (e ∷ es) = sums_from e es

-- ---- each pair once

-- couplers in order, none of them 0, that give each pair the sum of its weights
pub record AreSummed (from to : List Entry) : Type 0 where
  pub ordered : IsStrictlySortedBy entry_cmp to
  pub nonzero : All IsNonzero to
  pub pairs : (n : ℕ) → All (IsPair n) from → All (IsPair n) to
  pub sums : (i j : ℕ) → weight_at i j to ≡ weight_at i j from
  pub small : weight_total to ≤ weight_total from

-- such couplers behind others: where all summed ones have a first node, they have it too
pub record AppendsSums (from old new : List Entry) : Type 0 where
  pub row : List Entry
  pub appended : new ≡ old ++ row
  pub summed : AreSummed from row
  pub firsts : (i : ℕ) → All (λ e. e.first ≡ i) from → All (λ e. e.first ≡ i) row
