-- Which maps of chains embed an Ising form in a graph.
use Rattle.std.specs.Prelude.{◌≡◌, ◌≢◌, ℕ, ◌≤◌, Bool, true, List, [], length, All}
use Rattle.bits_model.specs.declared.output.Entry.{Entry}
use Rattle.bits_model.specs.Walks.{IsConnected}
use Rattle.ising_form.specs.Isings.{IsingContent}
use Rattle.chain_map.specs.Chains.{Joins, chain_of, occurrences, IsBetween}

-- two joined qubits, the lesser one first, of which each of two chains has one
pub record IsCrossing (joined : Joins) (c d : List ℕ) (pair : ℕ × ℕ) : Type 0 where
  pub between : IsBetween c d pair
  pub linked : joined pair.0 pair.1 ≡ true

-- some qubit of the one chain of a coupling is joined to some qubit of the other
abbrev pub IsCoupled : Joins → List (List ℕ) → Entry → Type 0
IsCoupled joined chains c =
    (pair : ℕ × ℕ) × IsCrossing joined (chain_of chains c.first) (chain_of chains c.second) pair

-- a valid embedding: a chain for each node, none empty and each connected by joins inside it, of
-- qubits that exist and occur once, and a join for each coupling
pub record IsValid (joined : Joins) (exists : ℕ → Bool) (f : IsingContent) (chains : List (List ℕ)) : Type 0 where
  pub counted : length chains ≡ length f.fields
  pub filled : All (λ chain. chain ≢ []) chains
  pub within : All (λ chain. All (λ q. exists q ≡ true) chain) chains
  pub once : (q : ℕ) → occurrences q chains ≤ 1
  pub connected : All (IsConnected joined) chains
  pub coupled : All (IsCoupled joined chains) f.couplings
