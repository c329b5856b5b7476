-- The search for the qubits of a chain, level by level: what one qubit takes, and what a level takes.
-- Qubits are given by their positions in the ascending list `qs` of the chain's qubits.
use Rattle.std.specs.Prelude.{◌≡◌, ◌≢◌, ℕ, ◌+◌, ◌<◌, ◌≤◌, ◌⊎◌, Bool, true, false, List, [], ◌∷◌, ◌++◌, length, sum_by, if◌then◌else◌, slice_set}
use Rattle.std.specs.List.{slice_index_or, Contains}
use Rattle.chain_map.specs.Chains.{Joins, chain_of}
use Rattle.bits_model.specs.Walks.{is_in, first_of, WalksTo, IsReached}
use Rattle.embedding_check.specs.Distances.{HasDistance}
use Rattle.embedding_check.specs.Distances.{IsParent}

-- which positions wait for a qubit that reaches them, the parents of those that don't, and the
-- positions that were reached last
pub record Found : Type 0 where
  pub waits : List Bool
  pub parents : List ℕ
  pub next : List ℕ

-- a position waits for a qubit that reaches it
abbrev pub waits_at : Found → ℕ → Bool
waits_at s i = slice_index_or s.waits i false

-- the parent of the qubit at a position
abbrev pub parent_at : Found → ℕ → ℕ
parent_at s i = slice_index_or s.parents i 0

-- the qubit at a position
abbrev pub qubit_at : List ℕ → ℕ → ℕ
qubit_at qs i = slice_index_or qs i 0

-- q is done with a position: it does not wait any more, or its qubit is not joined to q
abbrev pub IsDone : Joins → List ℕ → ℕ → Found → ℕ → Type 0
IsDone joined qs q s i = waits_at s i ≡ true → joined q (qubit_at qs i) ≡ false

-- q is done with all positions whose qubits are of this kind
abbrev pub AreDone : Joins → List ℕ → ℕ → (ℕ → Type 0) → Found → Type 0
AreDone joined qs q Kind s = (i : ℕ) → i < length qs → Kind (qubit_at qs i) → IsDone joined qs q s i

-- the qubits ascend, and none is listed twice
abbrev pub IsRising : List ℕ → Type 0
IsRising qs = (i j : ℕ) → i < j → j < length qs → qubit_at qs i < qubit_at qs j

-- how many wait
abbrev pub waiting : Found → ℕ
waiting s = sum_by (λ b. if b then 1 else 0) s.waits

-- a position is reached from a qubit
abbrev pub taken : Found → ℕ → ℕ → Found
taken s i q = record {
  waits = slice_set s.waits i false;
  parents = slice_set s.parents i q;
  next = s.next ++ (i ∷ []);
}

-- no positions are listed
abbrev pub emptied : Found → Found
emptied s = record { waits = s.waits; parents = s.parents; next = [] }

-- all positions wait but one, and none are listed
pub record IsBegun (count first : ℕ) (s : Found) : Type 0 where
  pub waits : length s.waits ≡ count
  pub parents : length s.parents ≡ count
  pub gone : waits_at s first ≡ false
  pub others : (i : ℕ) → i < count → i ≢ first → waits_at s i ≡ true
  pub none : s.next ≡ []

-- ---- what a search takes

-- as it was
pub record Stays (s t : Found) (i : ℕ) : Type 0 where
  pub waits : waits_at t i ≡ waits_at s i
  pub parent : parent_at t i ≡ parent_at s i

-- reached from q
pub record IsTaken (joined : Joins) (qs : List ℕ) (q : ℕ) (s t : Found) (i : ℕ) : Type 0 where
  pub waited : waits_at s i ≡ true
  pub reached : waits_at t i ≡ false
  pub parent : parent_at t i ≡ q
  pub linked : joined q (qubit_at qs i) ≡ true

-- the positions that no longer wait are those that the list has gained
pub record Moves (count : ℕ) (s t : Found) : Type 0 where
  pub waits : length t.waits ≡ length s.waits
  pub parents : length t.parents ≡ length s.parents
  pub listed : (i : ℕ) → Contains t.next i
      → Contains s.next i ⊎ ((i < count) × (waits_at s i ≡ true) × (waits_at t i ≡ false))
  pub keeps : (i : ℕ) → Contains s.next i → Contains t.next i
  pub lists : (i : ℕ) → i < count → waits_at s i ≡ true → waits_at t i ≡ false → Contains t.next i
  pub counted : waiting t + length t.next ≡ waiting s + length s.next

-- q takes only what waits and is joined to it
pub record Takes (joined : Joins) (qs : List ℕ) (q : ℕ) (s t : Found) : Type 0 where
  pub moves : Moves (length qs) s t
  pub each : (i : ℕ) → i < length qs → Stays s t i ⊎ IsTaken joined qs q s t i

-- and all of that
pub record Spreads (joined : Joins) (qs : List ℕ) (q : ℕ) (s t : Found) : Type 0 where
  pub takes : Takes joined qs q s t
  pub all : (i : ℕ) → i < length qs → waits_at t i ≡ true → joined q (qubit_at qs i) ≡ false

-- ---- what a level takes

-- none of the first n of the level is joined to it
abbrev pub NoneJoined : Joins → List ℕ → List ℕ → ℕ → ℕ → Type 0
NoneJoined joined qs level n i =
    (m : ℕ) → m < n → joined (qubit_at qs (qubit_at level m)) (qubit_at qs i) ≡ false

-- reached from the first one of the level that is joined to it
pub record IsFirst (joined : Joins) (qs level : List ℕ) (n : ℕ) (t : Found) (i m : ℕ) : Type 0 where
  pub below : m < n
  pub parent : parent_at t i ≡ qubit_at qs (qubit_at level m)
  pub linked : joined (qubit_at qs (qubit_at level m)) (qubit_at qs i) ≡ true
  pub before : NoneJoined joined qs level m i

-- it waited, and is reached from the first one of the level that is joined to it
pub record IsReachedFrom (joined : Joins) (qs level : List ℕ) (n : ℕ) (s t : Found) (i : ℕ) : Type 0 where
  pub waited : waits_at s i ≡ true
  pub reached : waits_at t i ≡ false
  pub from : (m : ℕ) × IsFirst joined qs level n t i m

-- it is as it was, and where it waits none of the first n of the level is joined to it
pub record Rests (joined : Joins) (qs level : List ℕ) (n : ℕ) (s t : Found) (i : ℕ) : Type 0 where
  pub stays : Stays s t i
  pub alone : waits_at t i ≡ true → NoneJoined joined qs level n i

-- what the first n of a level take
pub record LevelTakes (joined : Joins) (qs level : List ℕ) (n : ℕ) (s t : Found) : Type 0 where
  pub moves : Moves (length qs) s t
  pub each : (i : ℕ) → i < length qs
      → Rests joined qs level n s t i ⊎ IsReachedFrom joined qs level n s t i

-- ---- what the whole search finds

-- the qubits of a chain in ascending order
pub record IsSortedChain (chain qs : List ℕ) : Type 0 where
  pub inside : (i : ℕ) → i < length qs → is_in chain (qubit_at qs i) ≡ true
  pub found : (q : ℕ) → is_in chain q ≡ true → (i : ℕ) × (i < length qs) × (qubit_at qs i ≡ q)
  pub rising : (i j : ℕ) → i < j → j < length qs → qubit_at qs i < qubit_at qs j

-- each of some chains in ascending order
pub record AreSorted (chains sorted : List (List ℕ)) : Type 0 where
  pub len : length sorted ≡ length chains
  pub each : (u : ℕ) → u < length chains → IsSortedChain (chain_of chains u) (chain_of sorted u)

-- just the qubits that walks reach no longer wait, with their parents
pub record IsSearched (joined : Joins) (chain qs : List ℕ) (s : Found) : Type 0 where
  pub waits : length s.waits ≡ length qs
  pub parents : length s.parents ≡ length qs
  pub reached : (i : ℕ) → i < length qs → waits_at s i ≡ false → IsReached joined chain (qubit_at qs i)
  pub unreached : (i : ℕ) → i < length qs → waits_at s i ≡ true
      → IsReached joined chain (qubit_at qs i) → ⊥
  pub parent : (i : ℕ) → i < length qs → waits_at s i ≡ false → qubit_at qs i ≢ first_of chain
      → IsParent joined chain (qubit_at qs i) (parent_at s i)

-- ---- levels

-- a walk of at most d joins leads to it
abbrev pub IsWithin : Joins → List ℕ → ℕ → ℕ → Type 0
IsWithin joined chain d q = (steps : List ℕ) × WalksTo joined chain q steps × (length steps ≤ d)

-- after d levels: what waits is further than d, and the level are the positions at just that distance
pub record AtLevel (joined : Joins) (chain qs level : List ℕ) (d : ℕ) (s : Found) : Type 0 where
  pub waits : length s.waits ≡ length qs
  pub near : (i : ℕ) → i < length qs → waits_at s i ≡ false → IsWithin joined chain d (qubit_at qs i)
  pub far : (i : ℕ) → i < length qs → waits_at s i ≡ true → (steps : List ℕ)
      → WalksTo joined chain (qubit_at qs i) steps → d < length steps
  pub here : (i : ℕ) → Contains level i → (i < length qs) × HasDistance joined chain (qubit_at qs i) d
  pub all : (i : ℕ) → i < length qs → HasDistance joined chain (qubit_at qs i) d → Contains level i
  pub parent : (i : ℕ) → i < length qs → waits_at s i ≡ false → qubit_at qs i ≢ first_of chain
      → IsParent joined chain (qubit_at qs i) (parent_at s i)
