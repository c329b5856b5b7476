-- The least joined pairs that are noted from one node to later ones.
use Rattle.std.specs.Prelude.{◌≡◌, ℕ, ◌<◌, ◌≤◌, ◌⊎◌, ◌==◌, true, List, length, Option, Some, None, nat_lt, if◌then◌else◌}
use Rattle.std.specs.List.{slice_index_or}
use Rattle.hardware.specs.declared.span.Span.{Span}
use Rattle.hardware.specs.Others.{IsFaced}
use Rattle.embedding_check.specs.declared.noted.Mark.{Mark}
use Rattle.chain_map.specs.Chains.{Joins, chain_of}
use Rattle.embedding_check.specs.Owners.{owner_of}
use Rattle.embedding_check.specs.Checked.{IsBefore}
use Rattle.hardware.specs.declared.hardware.Others.{Others}
use Rattle.hardware.specs.Others.{IsOneOf}
use Rattle.embedding_check.specs.Least.{IsLeastPair, IsPlaceIn}

-- a pair is noted in the turn of its mark alone
abbrev pub marked_pair : ℕ → Mark → Option (ℕ × ℕ)
marked_pair turn m = if m.turn == turn then Some (m.from, m.to) else None

-- what is noted for a node
abbrev pub noted_at : List (Option (ℕ × ℕ)) → ℕ → Option (ℕ × ℕ)
noted_at noted v = slice_index_or noted v None

-- the pairs that are new make each noted pair the lesser one
pub record Notes (New : ℕ → ℕ × ℕ → Type 0) (old new : List (Option (ℕ × ℕ))) : Type 0 where
  pub same : length new ≡ length old
  pub each : (v : ℕ) → v < length old
      → IsLeastPair (λ p. (noted_at old v ≡ Some p) ⊎ New v p) (noted_at new v)

-- two qubits, the lesser one first
abbrev pub ordered : ℕ → ℕ → ℕ × ℕ
ordered a b = if nat_lt a b then (a, b) else (b, a)

-- the pair of a and b, where they are joined and b is in the chain of v, a later node
pub record IsJoin (joined : Joins) (owners : List ℕ) (node a b v : ℕ) (p : ℕ × ℕ) : Type 0 where
  pub below : b < length owners
  pub owner : owner_of owners b ≡ v
  pub later : node < v
  pub linked : joined a b ≡ true
  pub pair : p ≡ ordered a b

-- the joins of a to qubits from b on and before the end
abbrev pub IsRunJoin : Joins → List ℕ → ℕ → ℕ → ℕ → ℕ → ℕ → ℕ × ℕ → Type 0
IsRunJoin joined owners node a b end v p =
    (c : ℕ) × (b ≤ c) × (c < end) × IsJoin joined owners node a c v p

-- the joins of a to qubits of a span, and to a number
abbrev pub IsSpanJoin : Joins → List ℕ → ℕ → ℕ → Span → ℕ → ℕ × ℕ → Type 0
IsSpanJoin joined owners node a span v p =
    (b : ℕ) × IsFaced span b × IsJoin joined owners node a b v p

-- the join of a to the qubit of a given number
abbrev pub IsNumberJoin : Joins → List ℕ → ℕ → ℕ → Option ℕ → ℕ → ℕ × ℕ → Type 0
IsNumberJoin joined owners node a number v p =
    (b : ℕ) × (number ≡ Some b) × IsJoin joined owners node a b v p

-- the joins of a to its others
abbrev pub IsOthersJoin : Joins → List ℕ → ℕ → ℕ → Others → (ℕ → ℕ) → ℕ → ℕ × ℕ → Type 0
IsOthersJoin joined owners node a others other v p =
    (b : ℕ) × IsOneOf others other b × IsJoin joined owners node a b v p

-- all joins of a
abbrev pub IsQubitJoin : Joins → List ℕ → ℕ → ℕ → ℕ → ℕ × ℕ → Type 0
IsQubitJoin joined owners node a v p = (b : ℕ) × IsJoin joined owners node a b v p

-- the joins of the first n qubits of a chain
abbrev pub IsChainJoin : Joins → List ℕ → ℕ → List ℕ → ℕ → ℕ → ℕ × ℕ → Type 0
IsChainJoin joined owners node chain n v p =
    (i : ℕ) × (i < n) × IsQubitJoin joined owners node (slice_index_or chain i 0) v p

-- what is noted for a later node is not greater than the pair of a and any of its qubits here
abbrev pub AreNotedTo : List (Option (ℕ × ℕ)) → List ℕ → ℕ → ℕ → (ℕ → Type 0) → Type 0
AreNotedTo noted owners node a Here =
    (c : ℕ) → Here c → c < length owners → node < owner_of owners c
    → owner_of owners c < length noted
    → (q : ℕ × ℕ) × (noted_at noted (owner_of owners c) ≡ Some q) × IsBefore q (ordered a c)

-- the same, for the qubits of a span and for all qubits from a on in the place of a
abbrev pub AreNotedFrom : List (Option (ℕ × ℕ)) → List ℕ → ℕ → ℕ → Span → Type 0
AreNotedFrom noted owners node a span =
    (b : ℕ) → a ≤ b → AreNotedTo noted owners node b (IsFaced span)

-- the least joined pairs from a node to later ones are noted; where it is no node, nothing is said
abbrev pub AreNoted : Joins → List (List ℕ) → ℕ → List (Option (ℕ × ℕ)) → Type 0
AreNoted joined chains node noted =
    (v : ℕ) → node < v → v < length chains
    → IsPlaceIn joined (chain_of chains node) (chain_of chains v) (noted_at noted v)
