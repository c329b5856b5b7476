-- The entries of a model column by column: side by side those with the same second node.
use Rattle.std.specs.Prelude.{◌≡◌, ℕ, zero, suc, ◌<◌, ◌≤◌, ◌^◌, ◌==◌, pos, List, [], ◌∷◌, ◌++◌, All, cond, length}
use Rattle.std.specs.List.{slice_index_or}
use Rattle.std.specs.List.Sorted.{IsPermutation, IsNonDecreasingBy}
use Rattle.bits_model.specs.declared.output.Entry.{Entry}
use Rattle.bits_model.specs.declared.output.Kind.{Kind}
use Rattle.bits_model.specs.Output.{Written, IsPlaced, is_coupler, weight_total}

-- the entry with its nodes the other way round
abbrev pub turned : Entry → Entry
turned e = record { first = e.second; second = e.first; weight = e.weight }

-- a model of this kind with so many nodes and these entries, from which no assignment is read
abbrev pub model_of : Kind → ℕ → List Entry → Written
model_of kind n entries = record {
  kind = kind;
  variables = 0;
  figures = record { scale = pos 1; offset = pos 0; threshold = pos 0 };
  unit = pos 1;
  nodes = n;
  entries = entries;
  chains = [];
}

-- a model of this kind with so many nodes and these entries in any order
pub record IsMadeOf (k : Kind) (n : ℕ) (es : List Entry) (m : Written) : Type 0 where
  pub kind : m.kind ≡ k
  pub nodes : m.nodes ≡ n
  pub entries : IsPermutation es m.entries

-- the entries are of the first n nodes, in the order of their second nodes, and small together
pub record AreColumns (n : ℕ) (entries : List Entry) : Type 0 where
  pub ordered : IsNonDecreasingBy (λ e. e.second) entries
  pub placed : All (IsPlaced n) entries
  pub light : weight_total entries ≤ 2 ^ 124

-- ---- columns

-- the column of a node: the entries of which it is the second node, the last one first
abbrev pub column : ℕ → List Entry → List Entry
column v [] = []
column v (e ∷ es) = cond (e.second == v) (column v es ++ e ∷ []) (column v es)

-- the columns of the first n nodes
abbrev pub columns : ℕ → List Entry → List (List Entry)
columns zero es = []
columns (suc n) es = columns n es ++ column n es ∷ []

-- the entries up to an end are those of the first n nodes
pub record AreLeft (n end : ℕ) (entries : List Entry) : Type 0 where
  pub ordered : IsNonDecreasingBy (λ e. e.second) entries
  pub within : end ≤ length entries
  pub below : (k : ℕ) (d : Entry) → k < end → (slice_index_or entries k d).second < n

-- ---- lesser neighbours

-- the lesser nodes of couplers
abbrev pub lesser_nodes : List Entry → List ℕ
lesser_nodes [] = []
lesser_nodes (e ∷ es) = cond (is_coupler e) (e.first ∷ lesser_nodes es) (lesser_nodes es)

-- the lesser nodes of each column, and behind them those that were passed to its node
abbrev pub with_lesser : List (List Entry) → List (List ℕ) → List (List ℕ)
with_lesser [] passed = []
with_lesser (es ∷ held) [] = []
with_lesser (es ∷ held) (us ∷ passed) = (lesser_nodes es ++ us) ∷ with_lesser held passed
