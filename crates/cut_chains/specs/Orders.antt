-- An order of the qubits of a chain in which each stands after its parent, and walks from a qubit
-- to its parents.
--
-- A walk up marks what it meets and stops at a marked qubit, so all walks together take as many
-- steps as the chain has qubits. Listed from the first qubit outwards, an order serves the sums
-- over all sides: gone through backwards, each qubit is added to its parent after all that hangs on
-- it.
use Rattle.std.specs.Prelude.{◌≡◌, ℕ, ◌<◌, ◌||◌, Bool, true, false, List, [], ◌∷◌, length, take, All}
use Rattle.std.specs.List.{slice_index_or}
use Rattle.bits_model.specs.Walks.{is_in}
use Rattle.embedding_check.specs.Embeddings.{parent_in}
use Rattle.chain_layer.specs.laws.OnceChains.{Once}

-- The qubits after the first, each once and after its parent. For the chain 4, 7, 9, 2 with the
-- parents 4, 7, 4, both 7, 9, 2 and 2, 7, 9 are orders, and 9, 7, 2 is none.
pub record IsOrder (first : ℕ) (cs ps order : List ℕ) : Type 0 where
  -- each qubit's parent is the first qubit, or stands earlier in the order
  pub after : (j : ℕ) → j < length order
      → is_in (first ∷ take j order) (parent_in cs ps (slice_index_or order j 0)) ≡ true
  -- no qubit stands twice, and the first one does not stand in it
  pub once : (j : ℕ) → j < length order
      → is_in (first ∷ take j order) (slice_index_or order j 0) ≡ false
  -- the qubits of the order are those of the chain after the first
  pub all : (q : ℕ) → is_in order q ≡ is_in cs q

-- A walk from a qubit to its parents, up to q. The walk 9, 7 leads from 9 up to 4: each qubit of it
-- is the parent of the one before, q is the parent of the last, and q itself is not on the walk.
abbrev pub IsClimb : (ℕ → ℕ) → List ℕ → ℕ → ℕ → Type 0
IsClimb up [] from q = from ≡ q
IsClimb up (p ∷ ps) from q = (from ≡ p) × IsClimb up ps (up p) q

-- a walk over qubits that were not marked, up to one that is, and now they are
pub record IsClimbed (up : ℕ → ℕ) (before now : List Bool) (from : ℕ) (path : List ℕ) : Type 0 where
  -- a mark for each qubit of the graph, as before
  pub sized : length now ≡ length before
  -- the walk goes up from the given qubit, and where it ends there is a mark, be it an old one or
  -- one that this walk left
  pub walk : (q : ℕ) × IsClimb up path from q × (q < length before)
      × ((slice_index_or before q true || is_in path q) ≡ true)
  -- it goes over fresh qubits alone
  pub unmarked : All (λ q. slice_index_or before q true ≡ false) path
  -- so it meets no qubit twice
  pub different : Once path
  -- marked now are the qubits that were, and those of the walk
  pub marked : (q : ℕ) → q < length before
      → slice_index_or now q true ≡ (slice_index_or before q true || is_in path q)
