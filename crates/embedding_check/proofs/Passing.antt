-- One chain more in the passes over a map.
use Rattle.embedding_check.proofs.Common.{nat_tests, ◌≡◌, ℕ, ◌+◌, ◌<◌, ◌≤◌, ◌==◌, List, All, length, get_or, arith, count_by, occurrences-chain-le, chain_of, occurrences, Bool, marked, IsFirstBad, IsFirstAt, get_or_default, below_more}

pub once_each : (map : List (List ℕ)) → ((q : ℕ) → occurrences q map ≤ 1) → (v : ℕ) → v < length map → (q : ℕ)
    → count_by (λ p. p == q) (chain_of map v) ≤ 1
once_each map once v below q = omega (arith, once q, occurrences-chain-le q map v below)

-- what holds of all places before a chain and in it
pub places_more : (map : List (List ℕ)) (Good : ℕ → ℕ → Type 0) (v : ℕ) → ((u : ℕ) → u < v → (j : ℕ)
    → j < length (chain_of map u) → Good u j) → ((j : ℕ) → j < length (chain_of map v) → Good v j)
    → (u : ℕ) → u < v + 1 → (j : ℕ) → j < length (chain_of map u) → Good u j
places_more map Good v before here =
    below_more (λ u. (j : ℕ) → j < length (chain_of map u) → Good u j) v before here

pub first_at : (map : List (List ℕ)) (Good : ℕ → ℕ → Type 0) (v k : ℕ) → v < length map
    → ((u : ℕ) → u < v → (j : ℕ) → j < length (chain_of map u) → Good u j)
    → IsFirstBad (length (chain_of map v)) (Good v) k → IsFirstAt map Good v k
first_at map Good v k below before bad = record {
  chain = record { below = below; bad = λ all. bad.bad (all k bad.below); before = before };
  place = bad;
}

-- the qubits of a chain of the map
pub chain_within : (n : ℕ) (map : List (List ℕ)) (v : ℕ) (xs : List ℕ) → xs ≡ chain_of map v → v < length map
    → ((u : ℕ) → u < length map → (j : ℕ) → j < length (chain_of map u) → get_or (chain_of map u) j 0 < n)
    → All (λ q. q < n) xs
chain_within n map v xs same below within =
    rw same (λ j d low. rw (← get_or_default (chain_of map v) j 0 d low) (within v below j low))

-- a mark counts once
pub marked-le : (seen : List Bool) (q : ℕ) → marked seen q ≤ 1
marked-le seen q = grind (arith, nat_tests)
