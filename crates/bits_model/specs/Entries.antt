-- Entries that are held packed: those of nodes by their weights, and couplers row by row.
use Rattle.std.specs.Prelude.{◌≡◌, ◌≢◌, ℕ, suc, ◌-◌, ◌<◌, ◌≤◌, ◌^◌, ◌==◌, ℤ, int_div, Bool, false, List, [], ◌∷◌, ◌++◌, length, drop, replicate, ⊤, if◌then◌else◌}
use Rattle.bits_model.specs.declared.output.Entry.{Entry}
use Rattle.bits_model.specs.declared.weights.HeldWeights.{HeldWeights}
use Rattle.bits_model.specs.declared.weights.HeldWeights.TheVariants.{Narrow, Wide}
use Rattle.bits_model.specs.declared.nodes.Numbers.{Numbers}
use Rattle.bits_model.specs.declared.nodes.Numbers.TheVariants.{All, Listed}
use Rattle.bits_model.specs.declared.couplers.RowStart.{RowStart}

-- whole numbers, in however many bits they are held
abbrev pub held_weights : HeldWeights → List ℤ
held_weights (Narrow weights) = weights.items
held_weights (Wide weights) = weights.items

-- ---- entries of nodes

-- the entries of nodes with these weights, numbered from n on
abbrev pub node_entries : ℕ → List ℤ → List Entry
node_entries n [] = []
node_entries n (w ∷ ws) = record { first = n; second = n; weight = w } ∷ node_entries (suc n) ws

-- the entries of these nodes, with these weights
abbrev pub listed_entries : List ℕ → List ℤ → List Entry
listed_entries [] ws = []
listed_entries (n ∷ ns) [] = []
listed_entries (n ∷ ns) (w ∷ ws) =
    record { first = n; second = n; weight = w } ∷ listed_entries ns ws

-- the entries of all nodes, or of those that are listed
abbrev pub weighed_nodes : Numbers → List ℤ → List Entry
weighed_nodes All ws = node_entries 0 ws
weighed_nodes (Listed ns) ws = listed_entries ns.items ws

-- each weight has a number of 32 bits
abbrev pub AreNumbers : Numbers → List ℤ → Type 0
AreNumbers All ws = length ws < 2 ^ 32
AreNumbers (Listed ns) ws = length ns.items ≡ length ws

-- ---- rows of entries

-- an entry before rows: in the first of them, where that has the same first node
abbrev pub in_rows : Entry → List (List Entry) → List (List Entry)
in_rows e [] = (e ∷ []) ∷ []
in_rows e ([] ∷ rows) = (e ∷ []) ∷ rows
in_rows e ((f ∷ row) ∷ rows) =
    if e.first == f.first
    then (e ∷ f ∷ row) ∷ rows
    else (e ∷ []) ∷ (f ∷ row) ∷ rows

-- the rows of a list: its longest stretches of entries with the same first node
abbrev pub rows_of : List Entry → List (List Entry)
rows_of [] = []
rows_of (e ∷ es) = in_rows e (rows_of es)

-- an entry whose weight is divided, and rounded towards 0
abbrev pub divided : ℤ → Entry → Entry
divided unit e = record e { weight = int_div e.weight unit }

-- ---- how rows are held

-- where the entries before these rows end, of n entries
abbrev pub end_before : ℕ → List RowStart → ℕ
end_before n [] = n
end_before n (r ∷ rs) = r.start

-- the first node of each entry of these rows, of n entries
abbrev pub firsts_of : ℕ → List RowStart → List ℕ
firsts_of n [] = []
firsts_of n (r ∷ rs) = replicate (end_before n rs - r.start) r.first ++ firsts_of n rs

-- the entries of these first and second nodes, with these weights
abbrev pub coupled : List ℕ → List ℕ → List ℤ → List Entry
coupled [] ss ws = []
coupled (f ∷ fs) [] ws = []
coupled (f ∷ fs) (s ∷ ss) [] = []
coupled (f ∷ fs) (s ∷ ss) (w ∷ ws) =
    record { first = f; second = s; weight = w } ∷ coupled fs ss ws

-- the last of these rows is that of this node
abbrev pub last_is : ℕ → List RowStart → Bool
last_is f [] = false
last_is f (r ∷ []) = r.first == f
last_is f (r ∷ s ∷ rs) = last_is f (s ∷ rs)

-- the first of these rows, if any, is that of another node
abbrev pub IsOther : ℕ → List RowStart → Type 0
IsOther f [] = ⊤
IsOther f (r ∷ rs) = f ≢ r.first

-- rows of n entries, none of them empty, and neighbours of different nodes
abbrev pub AreRows : ℕ → List RowStart → Type 0
AreRows n [] = ⊤
AreRows n (r ∷ rs) = (r.start < end_before n rs) × IsOther r.first rs × AreRows n rs

-- rows that hold all entries
pub record IsPacked (starts : List RowStart) (seconds : List ℕ) (weights : List ℤ) : Type 0 where
  pub rows : AreRows (length seconds) starts
  pub whole : end_before (length seconds) starts ≡ 0
  pub weighed : length weights ≡ length seconds

-- the entries that are held
abbrev pub packed_entries : List RowStart → List ℕ → List ℤ → List Entry
packed_entries starts seconds weights = coupled (firsts_of (length seconds) starts) seconds weights

-- ---- what is left of them

-- the first nodes of the entries from an index on, which is in the first of these rows
abbrev pub firsts_from : ℕ → ℕ → List RowStart → List ℕ
firsts_from n at [] = []
firsts_from n at (r ∷ rs) = replicate (end_before n rs - at) r.first ++ firsts_of n rs

-- the index of an entry is in the first of these rows, and none is left where it is past the last
abbrev pub IsInFirst : ℕ → ℕ → List RowStart → Type 0
IsInFirst n at [] = at ≡ n
IsInFirst n at (r ∷ rs) = (at < end_before n rs) × AreRows n rs

-- the entries from an index on, which is in the first of these rows
abbrev pub entries_left : List RowStart → ℕ → List ℕ → List ℤ → List Entry
entries_left rows at seconds weights =
    coupled (firsts_from (length seconds) at rows) (drop at seconds) (drop at weights)

-- the entries from one index to another, which have the same first node
abbrev pub row_entries : ℕ → ℕ → ℕ → List ℕ → List ℤ → List Entry
row_entries first start end seconds weights =
    coupled (replicate (end - start) first) (drop start seconds) (drop start weights)

-- both indices lie in the lists, in order
pub record IsWithin (start end : ℕ) (seconds : List ℕ) (weights : List ℤ) : Type 0 where
  pub ordered : start ≤ end
  pub within : end ≤ length seconds
  pub weighed : length weights ≡ length seconds
