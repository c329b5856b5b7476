-- Walks inside a chain of qubits. A graph tells which two qubits are joined.
use Rattle.std.specs.Prelude.{◌≡◌, ℕ, ◌==◌, Bool, true, List, [], ◌∷◌, All, ⊤}
use Rattle.std.specs.List.{list_any, slice_index_or}

-- the qubit q is in the chain
abbrev pub is_in : List ℕ → ℕ → Bool
is_in chain q = list_any (λ p. p == q) chain

-- the chain's first qubit
abbrev pub first_of : List ℕ → ℕ
first_of chain = slice_index_or chain 0 0

-- each of these qubits is in the chain, and joined to the one before it
abbrev pub IsWalk : (joined : ℕ → ℕ → Bool) → List ℕ → ℕ → List ℕ → Type 0
IsWalk joined chain from [] = ⊤
IsWalk joined chain from (q ∷ qs) =
    (is_in chain q ≡ true) × (joined from q ≡ true) × IsWalk joined chain q qs

-- the last qubit of a walk
abbrev pub end_of : ℕ → List ℕ → ℕ
end_of from [] = from
end_of from (q ∷ qs) = end_of q qs

-- these qubits lead from the chain's first qubit to q, inside the chain
pub record WalksTo (joined : ℕ → ℕ → Bool) (chain : List ℕ) (q : ℕ) (steps : List ℕ) : Type 0 where
  pub walk : IsWalk joined chain (first_of chain) steps
  pub ends : end_of (first_of chain) steps ≡ q

-- some walk inside the chain leads from its first qubit to q
abbrev pub IsReached : (joined : ℕ → ℕ → Bool) → List ℕ → ℕ → Type 0
IsReached joined chain q = (steps : List ℕ) × WalksTo joined chain q steps

-- walks inside the chain lead to each of its qubits
abbrev pub IsConnected : (joined : ℕ → ℕ → Bool) → List ℕ → Type 0
IsConnected joined chain = All (IsReached joined chain) chain
