-- How often a qubit is listed, chain after chain.
use Rattle.chain_map.proofs.Common.{◌≡◌, ℕ, ◌+◌, ◌<◌, ◌≤◌, ◌==◌, List, [], ◌∷◌, length, take, if◌then◌else◌, refl, arith, count_by, concat, sum_by, sum_by-cons, sum_by-append, sum_by_more, sum_by-take-le, get_or-le-sum_by, chain_of, occurrences}

-- the sum over the chains
pub occurrences-sum : (q : ℕ) (chains : List (List ℕ))
    → occurrences q chains ≡ sum_by (λ chain. count_by (λ p. p == q) chain) chains
occurrences-sum q [] = refl
occurrences-sum q (chain ∷ chains) =
    let rest = occurrences-sum q chains in
    omega (arith, sum_by-append (λ p. if p == q then 1 else 0) chain (concat chains), sum_by-cons)

-- one chain more
pub occurrences_more : (q : ℕ) (chains : List (List ℕ)) (v : ℕ) → v < length chains
    → occurrences q (take (v + 1) chains)
    ≡ occurrences q (take v chains) + count_by (λ p. p == q) (chain_of chains v)
occurrences_more q chains v below =
    let more = sum_by_more (λ chain. count_by (λ p. p == q) chain) chains v [] below in
    omega (arith, more, occurrences-sum q)

-- the first chains have no more than all
pub occurrences-take-le : (q : ℕ) (chains : List (List ℕ)) (v : ℕ)
    → occurrences q (take v chains) ≤ occurrences q chains
occurrences-take-le q chains v =
    omega (arith, occurrences-sum, sum_by-take-le (λ chain. count_by (λ p. p == q) chain) chains v)

-- and one chain has no more
pub occurrences-chain-le : (q : ℕ) (chains : List (List ℕ)) (v : ℕ) → v < length chains
    → count_by (λ p. p == q) (chain_of chains v) ≤ occurrences q chains
occurrences-chain-le q chains v below =
    omega (arith, occurrences-sum, get_or-le-sum_by (λ chain. count_by (λ p. p == q) chain) chains v [] below)
