-- The ties of one node, from the sums over its chain.
use Rattle.cut_chains.proofs.Common.{◌≡◌, ℕ, ◌+◌, ◌-◌, ◌<◌, ◌≤◌, ◌^◌, true, not, List, [], ◌∷◌, length, drop, get_or, All, refl, ap, ◌∙◌, arith, min, sum_by, ints, nat_tests, All-from_recursion, is_in, first_of, Embedding, IsEmbedding, chain_of, in_rest, each_in, chain_within, is_below, weight_of, side_weight, cut_strength, ties, strength_in, IsOnceTree, node_ties, once_tree, chain_once}
use Rattle.cut_chains.proofs.Subtrees.{same_held}
use Rattle.cut_chains.proofs.Reaching.{chain_parts}
use Rattle.cut_chains.proofs.CutSizes.{both_sides, chain_weighs, all_weigh}

-- the same sums over a chain of the same weights
same_sums : (v w : ℕ → ℕ) (qs : List ℕ) → ((q : ℕ) → is_in qs q ≡ true → v q ≡ w q)
    → sum_by v qs ≡ sum_by w qs
same_sums v w qs same = same_held (λ q. true) w v qs same

pub same_ties : (v w : ℕ → ℕ) (qs ps : List ℕ) → ((q : ℕ) → is_in qs q ≡ true → v q ≡ w q)
    → ties v qs ps ≡ ties w qs ps
same_ties v w [] ps same = refl
same_ties v w (q ∷ qs) [] same = refl
same_ties v w (q ∷ qs) (p ∷ ps) same =
    let rest = same_ties v w qs ps (λ r in'. same r (in_rest q r qs in')) in
    grind (arith, nat_tests)

-- a chain weighs little
pub chain_small : (e : Embedding) → IsEmbedding e → (i : ℕ) → i < length e.ising.fields
    → sum_by (weight_of e) (chain_of e.chains i) < 2 ^ 127
chain_small e kept i within =
    let chain = chain_weighs (weight_of e) e.qubits (chain_of e.chains i) (chain_once e kept i within)
    (chain_within e kept i within) in
    omega (arith, ints, all_weigh e kept, kept.ising.small)

-- ---- the node whose chain is summed

-- the chain of a node and its parents, where the qubits of the chain hold their weights
pub record IsNext (e : Embedding) (i : ℕ) (old chain parents : List ℕ) : Type 0 where
  pub kept : IsEmbedding e
  pub within : i < length e.ising.fields
  pub chain_is : chain ≡ chain_of e.chains i
  pub parents_is : parents ≡ chain_of e.parents i
  pub held : (q : ℕ) → is_in (chain_of e.chains i) q ≡ true → get_or old q 0 ≡ weight_of e q

-- what the sums have become: at the first qubit the whole, and at each other the weight below it
pub record AreSummed (old new chain parents : List ℕ) : Type 0 where
  pub below : (q : ℕ) → is_in (drop 1 chain) q ≡ true
      → get_or new q 0 ≡ side_weight (λ r. get_or old r 0) chain (is_below chain parents q)
  pub all : get_or new (first_of chain) 0 ≡ sum_by (λ r. get_or old r 0) chain

module _ (e : Embedding) (i : ℕ) (old chain parents : List ℕ)
    (next : IsNext e i old chain parents) where
  pub next_tree : IsOnceTree chain parents
  next_tree = rw (next.chain_is, next.parents_is) (once_tree e next.kept i next.within)

  pub next_small : sum_by (λ q. get_or old q 0) chain < 2 ^ 127
  next_small =
      let chain = ap (sum_by (λ q. get_or old q 0)) next.chain_is in
      let same = same_sums (λ q. get_or old q 0) (weight_of e) (chain_of e.chains i) next.held in
      omega (arith, chain_small e next.kept i next.within)

  module _ (new : List ℕ) (sums : AreSummed old new chain parents) where
    pub all_small : get_or new (first_of chain) 0 < 2 ^ 127
    all_small = omega (arith, sums.all, next_small)

    -- what is below a qubit is no more than the whole
    part_of : (q : ℕ) → is_in (drop 1 chain) q ≡ true
        → get_or new q 0 ≤ get_or new (first_of chain) 0
    part_of q in' =
        let both = both_sides (λ r. get_or old r 0) chain (is_below chain parents q) in
        omega (arith, sums.below q in', sums.all)

    pub parts_small : All (λ q. get_or new q 0 ≤ get_or new (first_of chain) 0) chain
    parts_small =
        All-from_recursion _ chain
        (each_in (λ q. get_or new q 0 ≤ get_or new (first_of chain) 0) chain (λ q in'.
        let here = ap (λ qs. is_in qs q) (chain_parts chain next_tree.filled) ∙ in' in
        let part = part_of q in grind (arith, nat_tests)))

    at_node : AreSummed old new (chain_of e.chains i) (chain_of e.parents i)
    at_node = grind (arith, nat_tests)

    same_strength : (q : ℕ) → is_in (drop 1 (chain_of e.chains i)) q ≡ true
        → strength_in new (first_of (chain_of e.chains i)) q ≡ cut_strength e i q
    same_strength q in' =
        let qs = chain_of e.chains i in
        let weight : ℕ → ℕ = λ r. get_or old r 0 in
        let is_on = is_below qs (chain_of e.parents i) q in
        let under = at_node.below q in' ∙ same_held is_on (weight_of e) weight qs next.held in
        let same = same_sums weight (weight_of e) qs next.held in
        let over : get_or new (first_of qs) 0 - get_or new q 0
        ≡ side_weight (weight_of e) qs (λ r. not (is_on r)) =
        omega (arith, under, at_node.all, both_sides (weight_of e) qs is_on) in
        λ k. min (under k) (over k) + 1

    pub node_made : ties (strength_in new (first_of chain)) (drop 1 chain) parents ≡ node_ties e i
    node_made =
        (λ k. ties (strength_in new (first_of (next.chain_is k))) (drop 1 (next.chain_is k))
        (next.parents_is k)) ∙ same_ties _ (cut_strength e i) (drop 1 (chain_of e.chains i))
        (chain_of e.parents i) same_strength
