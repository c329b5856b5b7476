-- Lists of chains: a chain of qubits for each node.
use Rattle.std.specs.Prelude.{◌≡◌, ℕ, ◌<◌, ◌==◌, Bool, true, ◌&&◌, ◌||◌, List, [], count_by}
use Rattle.std.specs.List.{concat, slice_index_or}
use Rattle.bits_model.specs.Walks.{is_in}

-- which two qubits are joined
abbrev pub Joins : Type 0
Joins = ℕ → ℕ → Bool

-- the chain of a node
abbrev pub chain_of : List (List ℕ) → ℕ → List ℕ
chain_of chains node = slice_index_or chains node []

-- how often a qubit is listed
abbrev pub occurrences : ℕ → List (List ℕ) → ℕ
occurrences q chains = count_by (λ p. p == q) (concat chains)

-- a pair of qubits, the lesser one first, of which each of two chains has one
pub record IsBetween (c d : List ℕ) (pair : ℕ × ℕ) : Type 0 where
  pub upward : pair.0 < pair.1
  pub ends : ((is_in c pair.0 && is_in d pair.1) || (is_in d pair.0 && is_in c pair.1)) ≡ true
