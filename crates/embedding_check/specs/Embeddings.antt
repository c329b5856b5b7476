-- Ising forms whose nodes stand on chains of qubits, and what such an embedding keeps.
use Rattle.std.specs.Prelude.{◌≡◌, ◌≢◌, ℕ, zero, suc, ◌+◌, ◌*◌, ◌≤◌, ◌<◌, ◌^◌, ◌==◌, true, List, [], ◌∷◌, length, drop, All, if◌then◌else◌}
use Rattle.std.specs.List.{AllZip}
use Rattle.base.specs.Costs.{Form}
use Rattle.ising_form.specs.Isings.{IsingContent, IsIsing, ising_size}
use Rattle.ising_form.specs.Isings as isings
use Rattle.bits_model.specs.declared.output.Entry.{Entry}
use Rattle.chain_map.specs.Chains.{chain_of, occurrences, IsBetween}
use Rattle.bits_model.specs.Walks.{is_in, first_of}

-- an Ising form, a chain for each node, the number of qubits, the parents of the qubits of each chain
-- from its second on, and the pair of qubits on which each coupling is placed
pub record Embedding : Type 0 where
  pub ising : IsingContent
  pub chains : List (List ℕ)
  pub qubits : ℕ
  pub parents : List (List ℕ)
  pub places : List (ℕ × ℕ)

-- it has the cost of its Ising form
abbrev pub form_of : Embedding → Form
form_of e = isings.form_of e.ising

-- its size counts four for each qubit besides
abbrev pub embedding_size : Embedding → ℕ
embedding_size e = ising_size e.ising + 4 * e.qubits

-- ---- a tree on a chain

-- the parent of a qubit, among the qubits after the first and their parents; the qubit itself where it
-- has none
abbrev pub parent_in : List ℕ → List ℕ → ℕ → ℕ
parent_in (c ∷ cs) (p ∷ ps) q = if c == q then p else parent_in cs ps q
parent_in (c ∷ cs) [] q = q
parent_in [] ps q = q

-- the qubit that so many steps to the parent lead to
abbrev pub climbed : List ℕ → List ℕ → ℕ → ℕ → ℕ
climbed cs ps zero q = q
climbed cs ps (suc n) q = climbed cs ps n (parent_in cs ps q)

-- a tie is between two qubits of the chain
pub record IsTie (chain : List ℕ) (q p : ℕ) : Type 0 where
  pub inside : is_in chain p ≡ true
  pub apart : q ≢ p

-- each qubit after the first has a parent, and steps to the parent lead from each qubit to the first
pub record IsTree (chain parents : List ℕ) : Type 0 where
  pub ties : AllZip (IsTie chain) (drop 1 chain) parents
  pub rooted : (q : ℕ) → is_in chain q ≡ true
      → (n : ℕ) × (climbed (drop 1 chain) parents n q ≡ first_of chain)

-- ---- what an embedding keeps

-- the place of a coupling has one end in each of its two chains
abbrev pub IsBetweenChains : List (List ℕ) → Entry → ℕ × ℕ → Type 0
IsBetweenChains chains c place =
    IsBetween (chain_of chains c.first) (chain_of chains c.second) place

-- a chain for each node, none empty, of few qubits, none of them twice; a tree on each chain, and a
-- place for each coupling
pub record IsEmbedding (e : Embedding) : Type 0 where
  pub ising : IsIsing e.ising
  pub counted : length e.chains ≡ length e.ising.fields
  pub filled : All (λ chain. chain ≢ []) e.chains
  pub few : e.qubits ≤ 2 ^ 20
  pub within : All (λ chain. All (λ q. q < e.qubits) chain) e.chains
  pub once : (q : ℕ) → occurrences q e.chains ≤ 1
  pub trees : AllZip IsTree e.chains e.parents
  pub placed : AllZip (IsBetweenChains e.chains) e.ising.couplings e.places
