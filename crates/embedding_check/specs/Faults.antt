-- Which fault a map of chains has first.
use Rattle.std.specs.Prelude.{◌≡◌, ◌≢◌, ℕ, ◌+◌, ◌<◌, ◌≤◌, ◌==◌, Bool, true, List, [], length, take, All, count_by, Option, Some, None}
use Rattle.chain_map.specs.Valid.{IsCoupled}
use Rattle.std.specs.List.{slice_index_or}
use Rattle.bits_model.specs.declared.output.Entry.{Entry}
use Rattle.ising_form.specs.Isings.{IsingContent}
use Rattle.chain_map.specs.declared.faults.EmbedFault.{EmbedFault}
use Rattle.chain_map.specs.declared.faults.EmbedFault.TheVariants.{ChainCount, EmptyChain, NoSuchQubit, Repeated, Disconnected, NoCoupler, TooManyNodes}
use Rattle.chain_map.specs.Chains.{Joins}
use Rattle.bits_model.specs.Walks.{IsReached}
use Rattle.chain_map.specs.Chains.{chain_of, occurrences}
use Rattle.embedding_check.specs.Reached.{IsFirstBad}

-- the first bad number, where there is one
abbrev pub IsFound : ℕ → (ℕ → Type 0) → Option ℕ → Type 0
IsFound n Good None = (k : ℕ) → k < n → Good k
IsFound n Good (Some k) = IsFirstBad n Good k

-- the number at a place of a node's chain
abbrev pub number_at : List (List ℕ) → ℕ → ℕ → ℕ
number_at map v k = slice_index_or (chain_of map v) k 0

-- the first number, chain after chain, whose place is not good
pub record IsFirstAt (map : List (List ℕ)) (Good : ℕ → ℕ → Type 0) (v k : ℕ) : Type 0 where
  pub chain : IsFirstBad (length map) (λ u. (j : ℕ) → j < length (chain_of map u) → Good u j) v
  pub place : IsFirstBad (length (chain_of map v)) (Good v) k

-- ---- what each pass asks of a place

-- the number at the place is a qubit of the graph
abbrev pub Exists : (ℕ → Bool) → List (List ℕ) → ℕ → ℕ → Type 0
Exists exists map u j = exists (number_at map u j) ≡ true

-- how often a number is listed before a place
abbrev pub listed_before : ℕ → List (List ℕ) → ℕ → ℕ → ℕ
listed_before q map u j = occurrences q (take u map) + count_by (λ p. p == q) (take j (chain_of map u))

-- the number at the place is not listed before it
abbrev pub IsNew : List (List ℕ) → ℕ → ℕ → Type 0
IsNew map u j = listed_before (number_at map u j) map u j ≡ 0

-- some walk inside the chain leads from its first qubit to the one at the place
abbrev pub IsReachedAt : Joins → List (List ℕ) → ℕ → ℕ → Type 0
IsReachedAt joined map u j = IsReached joined (chain_of map u) (number_at map u j)

-- ---- the passes before each

-- there are as many chains as nodes
pub record IsCounted (f : IsingContent) (map : List (List ℕ)) : Type 0 where
  pub counted : length map ≡ length f.fields

-- .. and none is empty
pub record IsFilled (f : IsingContent) (map : List (List ℕ)) : Type 0 where
  pub listed : IsCounted f map
  pub filled : All (λ chain. chain ≢ []) map

-- .. and all their qubits exist
pub record IsInside (exists : ℕ → Bool) (f : IsingContent) (map : List (List ℕ)) : Type 0 where
  pub listed : IsFilled f map
  pub within : All (λ chain. All (λ q. exists q ≡ true) chain) map

-- .. and no qubit is listed twice
pub record IsApart (exists : ℕ → Bool) (f : IsingContent) (map : List (List ℕ)) : Type 0 where
  pub inside : IsInside exists f map
  pub once : (q : ℕ) → occurrences q map ≤ 1

-- .. and each chain is connected: a walk inside it leads from its first qubit to each of its own
pub record IsLinked (joined : Joins) (exists : ℕ → Bool) (f : IsingContent) (map : List (List ℕ)) : Type 0 where
  pub apart : IsApart exists f map
  pub connected : All (λ chain. All (IsReached joined chain) chain) map

-- what the searches ask of chains: none is empty, and none of their numbers, all below the number of
-- qubits, is listed twice
pub record AreSearchable (qubits : ℕ) (chains : List (List ℕ)) : Type 0 where
  pub filled : (u : ℕ) → u < length chains → 0 < length (chain_of chains u)
  pub within : (u : ℕ) → u < length chains → (j : ℕ) → j < length (chain_of chains u)
      → number_at chains u j < qubits
  pub once : (q : ℕ) → occurrences q chains ≤ 1

-- ---- the faults

-- the least pair, in the order of the couplings, without joined qubits
pub record IsUncoupled (joined : Joins) (couplings : List Entry) (map : List (List ℕ)) (u v k : ℕ) : Type 0 where
  pub below : k < length couplings
  pub bad : (d : Entry) → IsCoupled joined map (slice_index_or couplings k d) → ⊥
  pub before : (i : ℕ) (d : Entry) → i < k → IsCoupled joined map (slice_index_or couplings i d)
  pub first : (d : Entry) → (slice_index_or couplings k d).first ≡ u
  pub second : (d : Entry) → (slice_index_or couplings k d).second ≡ v

-- the fault names the first number, chain after chain, that is no qubit
abbrev pub NamesUnknown : (ℕ → Bool) → List (List ℕ) → EmbedFault → Type 0
NamesUnknown exists map f =
    (v : ℕ) × (k : ℕ) × IsFirstAt map (Exists exists map) v k × (f ≡ NoSuchQubit v (number_at map v k))

-- the fault names the first qubit, chain after chain, that no walk inside its chain reaches
abbrev pub NamesUnreached : Joins → List (List ℕ) → EmbedFault → Type 0
NamesUnreached joined map f =
    (v : ℕ) × (k : ℕ) × IsFirstAt map (IsReachedAt joined map) v k
    × (f ≡ Disconnected v (number_at map v k))

-- the fault names the first coupling between whose chains no qubits are joined
abbrev pub NamesUncoupled : Joins → List Entry → List (List ℕ) → EmbedFault → Type 0
NamesUncoupled joined couplings map f =
    (u : ℕ) × (v : ℕ) × (k : ℕ) × IsUncoupled joined couplings map u v k × (f ≡ NoCoupler u v)

-- the map breaks what the fault names, first at its place, and keeps all that is asked before that
abbrev pub IsFault : Joins → (ℕ → Bool) → IsingContent → List (List ℕ) → EmbedFault → Type 0
IsFault joined exists f map (ChainCount n) = (n ≡ length map) × (length map ≢ length f.fields)
IsFault joined exists f map (EmptyChain v) =
    IsCounted f map × IsFirstBad (length map) (λ u. chain_of map u ≢ []) v
IsFault joined exists f map (NoSuchQubit v q) =
    IsFilled f map
    × ((k : ℕ) × IsFirstAt map (Exists exists map) v k × (number_at map v k ≡ q))
IsFault joined exists f map (Repeated q) =
    IsInside exists f map
    × ((v : ℕ) × (k : ℕ) × IsFirstAt map (IsNew map) v k × (number_at map v k ≡ q))
IsFault joined exists f map (Disconnected v q) =
    IsApart exists f map
    × ((k : ℕ) × IsFirstAt map (IsReachedAt joined map) v k × (number_at map v k ≡ q))
IsFault joined exists f map (NoCoupler u v) =
    IsLinked joined exists f map × ((k : ℕ) × IsUncoupled joined f.couplings map u v k)
IsFault joined exists f map (TooManyNodes n m) = ⊥
