-- The parents that are noted for a chain, and what the walks and sums over it ask.
use Rattle.cut_chains.proofs.Common.{elements, ◌≡◌, ℕ, ◌+◌, ◌<◌, ◌^◌, Bool, true, false, List, [], ◌∷◌, length, take, drop, get_or, All, refl, sym, ap, subst, ◌∙◌, arith, sum_by, AllByRecursion, AllZip, nat_tests, get_or-drop, get_or-set_same, get_or-set_other, length-drop, AllZip-get_or, recursion_from_All, set, length-set, is_in, first_of, IsTie, parent_in, each_at, is_below, side_weight, IsRooted, is_below_first, Once, own_parents, IsOnceTree, rooted_tree, IsOrder, Climbable, Sinkable, cond, zip_lengths}
use Rattle.cut_chains.proofs.Reaching.{chain_parts}
use Rattle.cut_chains.proofs.Members.{in_more}
use Rattle.cut_chains.proofs.Subtrees.{same_held}

-- what is noted so far
pub record IsNoted (before up chain parents : List ℕ) (i : ℕ) : Type 0 where
  pub sized : length up ≡ length before
  pub own : (q : ℕ) → is_in (take i (drop 1 chain)) q ≡ true
      → get_or up q 0 ≡ parent_in (drop 1 chain) parents q
  pub within : (n : ℕ) → All (λ q. q < n) before → All (λ q. q < n) parents → All (λ q. q < n) up

pub noted_more : (before up next chain parents : List ℕ) (i : ℕ)
    → length chain ≡ length parents + 1 → i < length parents → Once (drop 1 chain)
    → All (λ q. q < length before) chain → IsNoted before up chain parents i
    → next ≡ set up (get_or chain (i + 1) 0) (get_or parents i 0)
    → IsNoted before next chain parents (i + 1)
noted_more before up next chain parents i matched i_in once inside noted stored =
    let cs = drop 1 chain in
    let at = get_or chain (i + 1) 0 in
    let value = get_or parents i 0 in
    let counted : length cs ≡ length parents = omega (arith, length-drop 1 chain, matched) in
    let next_is : 1 + i ≡ i + 1 = omega arith in
    let here : get_or cs i 0 ≡ at = get_or-drop 1 chain i 0 ∙ ap (λ n. get_or chain n 0) next_is in
    let own = AllZip-get_or (λ q p. parent_in cs parents q ≡ p) cs parents i 0 0
    (own_parents cs parents once counted) (omega (arith, counted, i_in)) in
    let at_in = inside (i + 1) 0 (omega (arith, matched, i_in)) in
    record {
      sized = ap length stored ∙ length-set up at value ∙ noted.sized;
      own = λ q q_in.
          grind (arith, nat_tests, elements, in_more, get_or-set_same, get_or-set_other);
      within = λ n old all k d k_in.
          grind (arith, nat_tests, elements, length-set, get_or-set_same, get_or-set_other);
    }

-- a parent is in the chain
parent_in_chain : (chain cs ps : List ℕ) (q : ℕ) → AllZip (IsTie chain) cs ps → is_in cs q ≡ true
    → is_in chain (parent_in cs ps q) ≡ true
parent_in_chain chain [] ps q ties in' = absurd cc
parent_in_chain chain (c ∷ cs) [] q ties in' = absurd ties
parent_in_chain chain (c ∷ cs) (p ∷ ps) q ties in' =
    let rest = parent_in_chain chain cs ps q ties.1 in grind (arith, nat_tests)

-- ---- a chain, as its first qubit and the others

pub chain_root : (chain parents : List ℕ) → IsOnceTree chain parents
    → IsRooted (first_of chain) (drop 1 chain) parents
chain_root chain parents t = grind (arith, nat_tests)

pub chain_different : (chain parents : List ℕ) → IsOnceTree chain parents → Once (drop 1 chain)
chain_different chain parents t = grind (arith, nat_tests)

pub chain_all : (P : ℕ → Type 0) (chain parents : List ℕ) → IsOnceTree chain parents → All P chain
    → AllByRecursion P (first_of chain ∷ drop 1 chain)
chain_all P [] parents t all = absurd (t.filled refl)
chain_all P (first ∷ cs) parents t all = recursion_from_All P (first ∷ cs) all

pub chain_closed : (chain parents : List ℕ) → IsOnceTree chain parents → (q : ℕ)
    → is_in (drop 1 chain) q ≡ true
    → is_in (first_of chain ∷ drop 1 chain) (parent_in (drop 1 chain) parents q) ≡ true
chain_closed [] parents t q in' = absurd (t.filled refl)
chain_closed (first ∷ cs) parents t q in' =
    parent_in_chain (first ∷ cs) cs parents q t.tree.ties in'

pub parents_within : (n : ℕ) (chain parents : List ℕ) → IsOnceTree chain parents
    → All (λ q. q < n) chain → All (λ q. q < n) parents
parents_within n chain ps t inside = λ i d within.
    let long = zip_lengths (IsTie chain) (drop 1 chain) ps t.tree.ties in
    let tie = AllZip-get_or (IsTie chain) (drop 1 chain) ps i 0 d t.tree.ties (omega (arith, within)) in
    each_at (λ q. q < n) chain (get_or ps i d) (recursion_from_All _ chain inside) tie.inside

pub tree_lengths : (chain parents : List ℕ) → IsOnceTree chain parents
    → length chain ≡ length parents + 1
tree_lengths chain parents t = grind (arith, nat_tests, elements)

-- all qubits of a chain are below the first
pub all_below : (weight : ℕ → ℕ) (chain parents : List ℕ) → IsOnceTree chain parents
    → side_weight weight (first_of chain ∷ drop 1 chain)
    (is_below (first_of chain ∷ drop 1 chain) parents (first_of chain)) ≡ sum_by weight chain
all_below weight [] parents t = absurd (t.filled refl)
all_below weight (first ∷ cs) parents t =
    let is_on = is_below (first ∷ cs) parents first in
    same_held (λ q. true) weight (λ r. cond (is_on r) (weight r) 0) (first ∷ cs) (λ r in'.
    let on = is_below_first first cs parents (rooted_tree first cs parents t) r
    (grind (arith, nat_tests)) in ap (λ b. cond b (weight r) 0) on)

-- ---- what walks and sums ask

-- what the walks over a chain ask
abbrev pub climbable : (up : List ℕ) (seen : List Bool) (chain parents : List ℕ)
    → IsOnceTree chain parents → All (λ q. q < length seen) chain
    → All (λ q. get_or seen q true ≡ false) chain
    → ((q : ℕ) → is_in (drop 1 chain) q ≡ true → get_or up q 0 ≡ parent_in (drop 1 chain) parents q)
    → Climbable up seen (first_of chain) (drop 1 chain)
climbable up seen chain parents tree inside unseen own = record {
  ps = parents;
  root = chain_root chain parents tree;
  different = chain_different chain parents tree;
  inside = chain_all (λ q. q < length seen) chain parents tree inside;
  unseen = chain_all (λ q. get_or seen q true ≡ false) chain parents tree unseen;
  parents = own;
  closed = chain_closed chain parents tree;
}

-- what the sums over it ask
abbrev pub sinkable : (up sums order chain parents : List ℕ) → IsOnceTree chain parents
    → IsOrder (first_of chain) (drop 1 chain) parents order
    → All (λ q. q < length sums) chain → length up ≡ length sums
    → ((q : ℕ) → is_in (drop 1 chain) q ≡ true → get_or up q 0 ≡ parent_in (drop 1 chain) parents q)
    → sum_by (λ q. get_or sums q 0) chain < 2 ^ 127 → Sinkable up sums order
sinkable up sums order chain parents tree ordered inside same own small = record {
  first = first_of chain;
  cs = drop 1 chain;
  ps = parents;
  root = chain_root chain parents tree;
  ordered = ordered;
  different = chain_different chain parents tree;
  inside = chain_all (λ q. q < length sums) chain parents tree inside;
  parents = own;
  known = rw same (chain_all (λ q. q < length sums) chain parents tree inside).1;
  small =
      subst (λ qs. sum_by (λ q. get_or sums q 0) qs < 2 ^ 127) (sym (chain_parts chain tree.filled))
      small;
}
