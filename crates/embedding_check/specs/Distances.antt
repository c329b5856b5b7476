-- How far the qubits of a chain are from its first one, and their parents.
use Rattle.std.specs.Prelude.{◌≡◌, ℕ, suc, ◌≤◌, true, List, length, drop}
use Rattle.std.specs.List.{AllZip}
use Rattle.bits_model.specs.Walks.{is_in, WalksTo}
use Rattle.chain_map.specs.Chains.{Joins}

-- a shortest walk inside the chain from its first qubit to q has d joins
pub record HasDistance (joined : Joins) (chain : List ℕ) (q d : ℕ) : Type 0 where
  pub reached : (steps : List ℕ) × WalksTo joined chain q steps × (length steps ≡ d)
  pub least : (steps : List ℕ) → WalksTo joined chain q steps → d ≤ length steps

-- p is a qubit of the chain that is joined to q, and its distance is one less
pub record IsNearer (joined : Joins) (chain : List ℕ) (q p : ℕ) : Type 0 where
  pub inside : is_in chain p ≡ true
  pub linked : joined p q ≡ true
  pub nearer : (d : ℕ) × HasDistance joined chain p d × HasDistance joined chain q (suc d)

-- the parent of q is the least-numbered one
pub record IsParent (joined : Joins) (chain : List ℕ) (q p : ℕ) : Type 0 where
  pub nearer : IsNearer joined chain q p
  pub least : (r : ℕ) → IsNearer joined chain q r → p ≤ r

-- a parent for each qubit of the chain from the second on, in its order
abbrev pub AreParents : Joins → List ℕ → List ℕ → Type 0
AreParents joined chain parents = AllZip (IsParent joined chain) (drop 1 chain) parents
