-- Couplers row by row: a row has those whose first node is one.
--
-- Each row is summed by itself, and the rows follow one another. See Gustavson, Two fast algorithms
-- for sparse matrices: multiplication and permuted transposition (1978).
use Rattle.std.specs.Prelude.{◌≡◌, ℕ, ◌+◌, ◌≤◌, ◌<◌, ◌==◌, Bool, List, [], ◌∷◌, All, ⊤}
use Rattle.std.specs.List.{filter}
use Rattle.std.specs.List.Sorted.{IsStrictlySortedBy}
use Rattle.bits_model.specs.declared.output.Entry.{Entry}
use Rattle.bits_model.specs.Output.{entry_cmp}
use Rattle.quad_form.specs.Quads.{IsCoupler}
use Rattle.pair_sums.specs.Pairs.{weight_at}

-- the first node of the entry is i
abbrev pub is_of : ℕ → Entry → Bool
is_of i e = i == e.first

-- the entries of one row
abbrev pub row_of : ℕ → List Entry → List Entry
row_of i es = filter (is_of i) es

-- the couplers of a row, in order and none of them 0, with the sums of what is to be summed
pub record IsRow (nodes i : ℕ) (all row : List Entry) : Type 0 where
  pub first : All (λ e. e.first ≡ i) row
  pub ordered : IsStrictlySortedBy entry_cmp row
  pub couplers : All (IsCoupler nodes) row
  pub sums : (j : ℕ) → weight_at i j row ≡ weight_at i j all

-- the couplers of the first rows, in order and none of them 0, with the sums of what is to be
-- summed
pub record AreRows (nodes rows : ℕ) (all made : List Entry) : Type 0 where
  pub first : All (λ e. e.first < rows) made
  pub ordered : IsStrictlySortedBy entry_cmp made
  pub couplers : All (IsCoupler nodes) made
  pub sums : (i j : ℕ) → i < rows → weight_at i j made ≡ weight_at i j all

-- ---- couplers that follow row by row

-- the first nodes do not descend, from i on
abbrev pub AreFromRow : ℕ → List Entry → Type 0
AreFromRow i [] = ⊤
AreFromRow i (e ∷ es) = (i ≤ e.first) × AreFromRow e.first es

-- such entries without those of row i
pub record AreAfterRow (i : ℕ) (es later : List Entry) : Type 0 where
  pub from : AreFromRow (i + 1) later
  pub same : (j : ℕ) → i < j → row_of j later ≡ row_of j es
