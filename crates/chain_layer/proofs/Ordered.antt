-- The couplings of an image are in order, and none of them has the pair of another.
--
-- A placed coupling has its ends in the two chains of its nodes, a tie in one chain, and a qubit is in
-- one chain at most. So only two ties of one chain could have one pair. Then each of two qubits would
-- be the parent of the other, and steps to the parent would never lead to the chain's first qubit.
use Rattle.chain_layer.proofs.Common.{◌≡◌, ◌≢◌, ◌⊎◌, inl, inr, ℕ, zero, suc, ◌+◌, ◌*◌, ◌<◌, ◌≤◌, ◌^◌, Bool, true, false, cond, ◌&&◌, ◌||◌, List, [], ◌∷◌, ◌++◌, length, drop, ℤ, pos, neg_ℤ, refl, sym, ap, subst, ◌∙◌, arith, All, ◌==◌, nat_lt, count_by, ⊤, AllByRecursion, AllZip, range_with_len, flat_map, ints, nat_tests, IsPermutation, IsNonDecreasingBy, All-permutation, sum_by-IsPermutation, IsPermutation-append_comm, IsPermutation-trans, total_by-IsPermutation, cases_eq, ltb-true, ltb-false, recursion_from_All, All-from_recursion, length_all_zip, length-map-range_with_len, sum_by-cons, Entry, IsCoupler, pair_number, IsPair, weight_for, ArePairs, Before, Rises, same_pair, ordered_from_rising, rising_from_ordered, Before-further, same_entries, all_append, total_by-in_order, IsIsing, ising_total, is_in, first_of, Embedding, IsEmbedding, IsTie, parent_in, climbed, IsBetween, chain_of, coupling_entry, ties, ties_by, by_node, all_shares, all_ties, placed, field_at, inserted, in_order, image, image_by, in_first, in_rest, node_at, each_of_range, chain_within, one_chain, each_at, rest_in, Once, chain_once, AreOwn, apart_qubits, own_parents}
use Rattle.chain_layer.proofs.Sizes.{total_grows}

-- ---- entries of different pairs, in order

abbrev pub Apart : Entry → List Entry → Type 0
Apart e es = AllByRecursion (λ f. pair_number e ≢ pair_number f) es

abbrev pub AreApart : List Entry → Type 0
AreApart [] = ⊤
AreApart (e ∷ es) = Apart e es × AreApart es

all_inserted : (P : Entry → Type 0) (e : Entry) (es : List Entry) → P e → AllByRecursion P es
    → AllByRecursion P (inserted e es)
all_inserted P e [] here all = (here, tt)
all_inserted P e (f ∷ fs) here all =
    let all_is = all_inserted P e fs here all.1 in grind (arith, nat_tests)

pub all_in_order : (P : Entry → Type 0) (es : List Entry) → AllByRecursion P es
    → AllByRecursion P (in_order es)
all_in_order P [] all = tt
all_in_order P (e ∷ es) all = all_inserted P e (in_order es) all.0 (all_in_order P es all.1)

rises_inserted : (e : Entry) (es : List Entry) → Apart e es → Rises es → Rises (inserted e es)
rises_inserted e [] apart rises = (tt, tt)
rises_inserted e (f ∷ fs) apart rises =
    go (nat_lt (pair_number f) (pair_number e)) (ltb-true _ _) (ltb-false _ _)
    (rises_inserted e fs apart.1 rises.1)
  where
    go : (b : Bool) → (b ≡ true → pair_number f < pair_number e)
        → (b ≡ false → pair_number e ≤ pair_number f) → Rises (inserted e fs)
        → Rises (cond b (f ∷ inserted e fs) (e ∷ f ∷ fs))
    go true lt ge later =
        (all_inserted (λ g. pair_number f < pair_number g) e fs (lt refl) rises.0, later)
    go false lt ge later =
        let up = ge refl in
        let before : pair_number e < pair_number f = grind arith in
        ((before, Before-further e f fs before rises.0), rises)

pub rises_in_order : (es : List Entry) → AreApart es → Rises (in_order es)
rises_in_order [] apart = tt
rises_in_order (e ∷ es) apart =
    rises_inserted e (in_order es) (all_in_order (λ f. pair_number e ≢ pair_number f) es apart.0)
    (rises_in_order es apart.1)

-- ---- whose chains an entry is on

-- one end is in the one chain, and the other in the other
abbrev IsOn : List (List ℕ) → ℕ → ℕ → Entry → Type 0
IsOn chains i j e =
    ((is_in (chain_of chains i) e.first && is_in (chain_of chains j) e.second)
    || (is_in (chain_of chains j) e.first && is_in (chain_of chains i) e.second)) ≡ true

-- an entry of two qubits in the chains of these nodes
record IsOf (e : Embedding) (i j : ℕ) (entry : Entry) : Type 0 where
  pair : IsPair e.qubits entry
  on : IsOn e.chains i j entry
  ordered : i ≤ j
  within : j < length e.ising.fields

one_owner : (e : Embedding) → IsEmbedding e → (q i j : ℕ) → i < length e.ising.fields
    → j < length e.ising.fields → is_in (chain_of e.chains i) q ≡ true
    → is_in (chain_of e.chains j) q ≡ true → i ≡ j
one_owner e kept q i j i_in j_in here there =
    one_chain e.chains q i j (kept.once q) (omega (arith, i_in, kept.counted)) (omega (arith, j_in, kept.counted)) here there

-- one pair of qubits has one pair of nodes
same_nodes : (e : Embedding) → IsEmbedding e → (i j k l : ℕ) (f g : Entry) → IsOf e i j f → IsOf e k l g
    → f.first ≡ g.first → f.second ≡ g.second → (i ≡ k) × (j ≡ l)
same_nodes e kept i j k l f g of_f of_g first second =
    let i_in : i < length e.ising.fields = omega (arith, of_f.ordered, of_f.within) in
    let k_in : k < length e.ising.fields = omega (arith, of_g.ordered, of_g.within) in
    let ik = one_owner e kept f.first i k i_in k_in in
    let il = one_owner e kept f.first i l i_in of_g.within in
    let jk = one_owner e kept f.first j k of_f.within k_in in
    let jl = one_owner e kept f.first j l of_f.within of_g.within in
    let ik2 = one_owner e kept f.second i k i_in k_in in
    let il2 = one_owner e kept f.second i l i_in of_g.within in
    let jk2 = one_owner e kept f.second j k of_f.within k_in in
    let jl2 = one_owner e kept f.second j l of_f.within of_g.within in
    (grind (arith, nat_tests), grind (arith, nat_tests))

-- entries of one number are of one pair of nodes
numbers_apart : (e : Embedding) → IsEmbedding e → (i j k l : ℕ) (f g : Entry) → IsOf e i j f
    → IsOf e k l g → (i ≡ k → j ≡ l → ⊥) → pair_number f ≢ pair_number g
numbers_apart e kept i j k l f g of_f of_g other same =
    let pair = same_pair f.first f.second g.first g.second (omega (arith, of_f.pair.within, kept.few)) (omega (arith, of_g.pair.within, kept.few)) same in
    let nodes = same_nodes e kept i j k l f g of_f of_g pair.0 pair.1 in other nodes.0 nodes.1

apart-append : (es fs : List Entry) → AreApart es → AreApart fs
    → AllByRecursion (λ e. Apart e fs) es → AreApart (es ++ fs)
apart-append [] fs p q cross = q
apart-append (e ∷ es) fs p q cross = (both e es p.0 cross.0, apart-append es fs p.1 q cross.1)
  where
    both : (e : Entry) (es : List Entry) → Apart e es → Apart e fs → Apart e (es ++ fs)
    both e [] p q = q
    both e (g ∷ gs) p q = (p.0, both e gs p.1 q)

pub each : {P Q : Entry → Type 0} → ((e : Entry) → P e → Q e) → (es : List Entry) → AllByRecursion P es
    → AllByRecursion Q es
each weaker [] all = tt
each weaker (e ∷ es) all = (weaker e all.0, each weaker es all.1)

-- ---- placed couplings

qubit_below : (e : Embedding) → IsEmbedding e → (i q : ℕ) → i < length e.ising.fields
    → is_in (chain_of e.chains i) q ≡ true → q < e.qubits
qubit_below e kept i q within in' =
    each_at (λ p. p < e.qubits) (chain_of e.chains i) q (chain_within e kept i within) in'

placed_of : (e : Embedding) → IsEmbedding e → (c : Entry) (p : ℕ × ℕ)
    → IsCoupler (length e.ising.fields) c
    → IsBetween (chain_of e.chains c.first) (chain_of e.chains c.second) p
    → IsOf e c.first c.second (record { first = p.0; second = p.1; weight = c.weight })
placed_of e kept c p coupler between =
    let first_in : c.first < length e.ising.fields = omega (arith, coupler.upward, coupler.within) in
    let ends = between.ends in
    let second_below = qubit_below e kept c.second p.1 coupler.within in
    let first_below = qubit_below e kept c.first p.1 first_in in
    record {
      pair = record { upward = between.upward; within = grind (arith, nat_tests) };
      on = between.ends;
      ordered = omega (arith, coupler.upward);
      within = coupler.within;
    }

abbrev ArePlaced : Embedding → List Entry → List (ℕ × ℕ) → Type 0
ArePlaced e cs ps = AllZip (λ c place. IsBetween (chain_of e.chains c.first) (chain_of e.chains c.second) place) cs ps

one_placed_apart : (e : Embedding) → IsEmbedding e → (c : Entry) (p : ℕ × ℕ)
    → IsCoupler (length e.ising.fields) c
    → IsBetween (chain_of e.chains c.first) (chain_of e.chains c.second) p
    → (cs : List Entry) (ps : List (ℕ × ℕ)) → AllByRecursion (IsCoupler (length e.ising.fields)) cs
    → ArePlaced e cs ps → Before c cs
    → Apart (record { first = p.0; second = p.1; weight = c.weight }) (placed cs ps)
one_placed_apart e kept c p coupler between [] ps couplers all before = tt
one_placed_apart e kept c p coupler between (d ∷ ds) [] couplers all before = tt
one_placed_apart e kept c p coupler between (d ∷ ds) (r ∷ rs) couplers all before = (
  numbers_apart e kept c.first c.second d.first d.second _ _ (placed_of e kept c p coupler between)
      (placed_of e kept d r couplers.0 all.0)
      (λ first second. omega (arith, first, second, before.0)),
  one_placed_apart e kept c p coupler between ds rs couplers.1 all.1 before.1,
)

placed_apart : (e : Embedding) → IsEmbedding e → (cs : List Entry) (ps : List (ℕ × ℕ))
    → AllByRecursion (IsCoupler (length e.ising.fields)) cs → ArePlaced e cs ps → Rises cs
    → AreApart (placed cs ps)
placed_apart e kept [] ps couplers all rises = tt
placed_apart e kept (c ∷ cs) [] couplers all rises = tt
placed_apart e kept (c ∷ cs) (p ∷ ps) couplers all rises = (
  one_placed_apart e kept c p couplers.0 all.0 cs ps couplers.1 all.1 rises.0,
  placed_apart e kept cs ps couplers.1 all.1 rises.1,
)

-- an entry of a coupling
abbrev IsPlaced : Embedding → Entry → Type 0
IsPlaced e f = (i : ℕ) × (j : ℕ) × (i < j) × IsOf e i j f × (f.weight ≢ pos 0)

all_placed : (e : Embedding) → IsEmbedding e → (cs : List Entry) (ps : List (ℕ × ℕ))
    → AllByRecursion (IsCoupler (length e.ising.fields)) cs → ArePlaced e cs ps
    → AllByRecursion (IsPlaced e) (placed cs ps)
all_placed e kept [] ps couplers all = tt
all_placed e kept (c ∷ cs) [] couplers all = tt
all_placed e kept (c ∷ cs) (p ∷ ps) couplers all = (
  (c.first, c.second, couplers.0.upward, placed_of e kept c p couplers.0 all.0, couplers.0.nonzero),
  all_placed e kept cs ps couplers.1 all.1,
)

-- ---- ties

-- an entry of a tie of the node i
abbrev IsTied : Embedding → ℕ → Entry → Type 0
IsTied e i f = IsOf e i i f × (f.weight ≢ pos 0)

-- of some node from low on
abbrev IsTiedFrom : Embedding → ℕ → Entry → Type 0
IsTiedFrom e low f = (i : ℕ) × (low ≤ i) × IsTied e i f

tie_of : (e : Embedding) → IsEmbedding e → (i q p : ℕ) (w : ℤ) → i < length e.ising.fields
    → is_in (chain_of e.chains i) q ≡ true → is_in (chain_of e.chains i) p ≡ true → (q ≢ p)
    → IsOf e i i (coupling_entry q p w)
tie_of e kept i q p w within q_in p_in apart =
    let q_below = qubit_below e kept i q within q_in in
    let p_below = qubit_below e kept i p within p_in in
    record {
      pair = record { upward = grind (arith, nat_tests); within = grind (arith, nat_tests) };
      on = grind (arith, nat_tests);
      ordered = omega arith;
      within = within;
    }

tie_weight : (q p : ℕ) (w : ℤ) → (coupling_entry q p w).weight ≡ w
tie_weight q p w = grind (arith, nat_tests)

negative : (n : ℕ) → 0 < n → neg_ℤ (pos n) ≢ pos 0
negative n some same = omega (arith, ints, same, some)

ties_of_node : (e : Embedding) → IsEmbedding e → (i : ℕ) → i < length e.ising.fields
    → (strong : ℕ → ℕ) → ((q : ℕ) → 0 < strong q)
    → (qs ps : List ℕ) → AllByRecursion (λ q. is_in (chain_of e.chains i) q ≡ true) qs
    → AllZip (IsTie (chain_of e.chains i)) qs ps → AllByRecursion (IsTied e i) (ties strong qs ps)
ties_of_node e kept i within strong some [] ps ins all = tt
ties_of_node e kept i within strong some (q ∷ qs) [] ins all = tt
ties_of_node e kept i within strong some (q ∷ qs) (p ∷ ps) ins all =
    let w = neg_ℤ (pos (strong q)) in
    let tie = tie_of e kept i q p w within ins.0 all.0.inside all.0.apart in
    let weight = tie_weight q p w in
    let negative_is = negative (strong q) (some q) in
    let node = ties_of_node e kept i within strong some qs ps ins.1 all.1 in
    grind (arith, nat_tests, ints)

-- ---- two ties of one chain

-- two qubits that are each other's parents lead nowhere else
round : (cs ds : List ℕ) (n q p : ℕ) → parent_in cs ds q ≡ p → parent_in cs ds p ≡ q
    → (climbed cs ds n q ≡ q) ⊎ (climbed cs ds n q ≡ p)
round cs ds zero q p up down = inl refl
round cs ds (suc n) q p up down =
    elim (round cs ds n p q down up) [
      | inl here ↦ inr (ap (climbed cs ds n) up ∙ here)
      | inr there ↦ inl (ap (climbed cs ds n) up ∙ there)
    ]

-- one pair of qubits as two ties
same_ties : (q p r t : ℕ) (v w : ℤ) → (coupling_entry q p v).first ≡ (coupling_entry r t w).first
    → (coupling_entry q p v).second ≡ (coupling_entry r t w).second
    → ((q ≡ r) × (p ≡ t)) ⊎ ((q ≡ t) × (p ≡ r))
same_ties q p r t v w first second = grind (arith, nat_tests)

-- what is used of a chain: its qubits after the first are different from it, and all lead to it
record IsRooted (first : ℕ) (cs ds : List ℕ) : Type 0 where
  apart : is_in cs first ≡ false
  leads : (q : ℕ) → is_in cs q ≡ true → (n : ℕ) × (climbed cs ds n q ≡ first)

not_round : (first : ℕ) (cs ds : List ℕ) → IsRooted first cs ds → (q p : ℕ) → is_in cs q ≡ true
    → is_in cs p ≡ true → parent_in cs ds q ≡ p → parent_in cs ds p ≡ q → ⊥
not_round first cs ds root q p q_in p_in up down =
    let way = root.leads q q_in in
    elim (round cs ds way.0 q p up down) [
      | inl here ↦ apart_qubits q first cs root.apart q_in (sym way.1 ∙ here)
      | inr there ↦ apart_qubits p first cs root.apart p_in (sym way.1 ∙ there)
    ]

one_tie_apart : (e : Embedding) → IsEmbedding e → (i first : ℕ) (cs ds : List ℕ) → IsRooted first cs ds
    → i < length e.ising.fields
    → ((q : ℕ) → is_in cs q ≡ true → is_in (chain_of e.chains i) q ≡ true)
    → (q p : ℕ) (v : ℤ) → is_in cs q ≡ true → parent_in cs ds q ≡ p → IsTie (chain_of e.chains i) q p
    → (strong : ℕ → ℕ) (qs ps : List ℕ) → ((r : ℕ) → is_in qs r ≡ true → is_in cs r ≡ true)
    → is_in qs q ≡ false → AreOwn cs ds qs ps → AllZip (IsTie (chain_of e.chains i)) qs ps
    → Apart (coupling_entry q p v) (ties strong qs ps)
one_tie_apart e kept i first cs ds root within inside q p v q_in own tie strong [] ps ins out owns all = tt
one_tie_apart e kept i first cs ds root within inside q p v q_in own tie strong (r ∷ rs) [] ins out owns all = tt
one_tie_apart e kept i first cs ds root within inside q p v q_in own tie strong (r ∷ rs) (t ∷ ts) ins out owns all =
    let first_is = in_first r rs in
    let w = neg_ℤ (pos (strong r)) in
    let tie_is = tie_of e kept i q p v within (inside q q_in) tie.inside tie.apart in
    let fact = tie_of e kept i r t w within in
    let same_is = same_ties q p r t v w in
    let apart = apart_qubits q r (r ∷ rs) in
    let not = not_round first cs ds root q p q_in in
    let rest = in_rest r in
    let rest_is = in_rest r q rs in
    let one = one_tie_apart e kept i first cs ds root within inside q p v q_in own tie strong rs ts in
    grind (arith, nat_tests, ints)

ties_apart : (e : Embedding) → IsEmbedding e → (i first : ℕ) (cs ds : List ℕ) → IsRooted first cs ds
    → i < length e.ising.fields
    → ((q : ℕ) → is_in cs q ≡ true → is_in (chain_of e.chains i) q ≡ true)
    → (strong : ℕ → ℕ) (qs ps : List ℕ) → ((r : ℕ) → is_in qs r ≡ true → is_in cs r ≡ true) → Once qs
    → AreOwn cs ds qs ps → AllZip (IsTie (chain_of e.chains i)) qs ps → AreApart (ties strong qs ps)
ties_apart e kept i first cs ds root within inside strong [] ps ins once owns all = tt
ties_apart e kept i first cs ds root within inside strong (q ∷ qs) [] ins once owns all = tt
ties_apart e kept i first cs ds root within inside strong (q ∷ qs) (p ∷ ps) ins once owns all = (
  one_tie_apart e kept i first cs ds root within inside q p _ (ins q (in_first q qs)) owns.0 all.0 strong qs ps
      (λ r in'. ins r (in_rest q r qs in')) once.0 owns.1 all.1,
  ties_apart e kept i first cs ds root within inside strong qs ps (λ r in'. ins r (in_rest q r qs in')) once.1 owns.1 all.1,
)

-- ---- all couplings of an image

rest_apart : (chain : List ℕ) → (chain ≢ []) → Once chain → (is_in (drop 1 chain) (first_of chain) ≡ false) × Once (drop 1 chain)
rest_apart [] filled once = absurd (filled refl)
rest_apart (q ∷ qs) filled once = once

rest_inside : (chain : List ℕ) (q : ℕ) → is_in (drop 1 chain) q ≡ true → is_in chain q ≡ true
rest_inside [] q in' = in'
rest_inside (p ∷ ps) q in' = in_rest p q ps in'

-- the ties of a node, by how strong they are
abbrev ties_of : (ℕ → ℕ → ℕ) → Embedding → ℕ → List Entry
ties_of strong e i = ties (strong i) (drop 1 (chain_of e.chains i)) (chain_of e.parents i)

-- with ties as strong as the node asks
abbrev pub ties_at : Embedding → ℕ → List Entry
ties_at e i = ties_of (by_node e) e i

node_ties_apart : (strong : ℕ → ℕ → ℕ) (e : Embedding) → IsEmbedding e → (i : ℕ)
    → i < length e.ising.fields → AreApart (ties_of strong e i)
node_ties_apart strong e kept i within =
    let node = node_at e kept i within in
    let chain = chain_of e.chains i in
    let parents = chain_of e.parents i in
    let once = rest_apart chain node.filled (chain_once e kept i within) in
    ties_apart e kept i (first_of chain) (drop 1 chain) parents
    (record { apart = once.0; leads = λ q in'. node.tree.rooted q (rest_inside chain q in') })
    within (rest_inside chain) (strong i) (drop 1 chain) parents (λ r in'. in') once.1
    (own_parents (drop 1 chain) parents once.1 (length_all_zip _ _ _ node.tree.ties)) node.tree.ties

-- entries of two kinds that are apart
apart_kinds : (P Q : Entry → Type 0) → ((f g : Entry) → P f → Q g → pair_number f ≢ pair_number g)
    → (es fs : List Entry) → AllByRecursion P es → AllByRecursion Q fs
    → AllByRecursion (λ e. Apart e fs) es
apart_kinds P Q differ [] fs p q = tt
apart_kinds P Q differ (e ∷ es) fs p q =
    (each (λ g h. differ e g p.0 h) fs q, apart_kinds P Q differ es fs p.1 q)

-- couplings of the first n qubits are pairs of the first m
pub as_pairs : (m n : ℕ) (es : List Entry) → n ≤ m → AllByRecursion (IsCoupler n) es
    → AllByRecursion (IsPair m) es
as_pairs m n [] few all = tt
as_pairs m n (e ∷ es) few all =
    let up = all.0.upward in
    let below = all.0.within in
    (record { upward = up; within = omega (arith, below, few) }, as_pairs m n es few all.1)

-- placed couplings are couplings of two qubits, and not 0
pub couplers_placed : (e : Embedding) → IsEmbedding e
    → AllByRecursion (IsCoupler e.qubits) (placed e.ising.couplings e.places)
couplers_placed e kept =
    let all = all_placed e kept e.ising.couplings e.places in
    grind (arith, nat_tests, recursion_from_All, each)

-- couplings of different pairs, put in order
pub in_order_rises : (n : ℕ) (es : List Entry) → n ≤ 2 ^ 20 → AllByRecursion (IsCoupler n) es
    → AreApart es
    → ArePairs (in_order es) × Rises (in_order es) × AllByRecursion (IsCoupler n) (in_order es)
in_order_rises n es few all apart =
    let here = all_in_order (IsCoupler n) es all in
    (as_pairs (2 ^ 32) n (in_order es) (omega (arith, few)) here, rises_in_order es apart, here)

-- ties of any strength but 0
module _ (strong : ℕ → ℕ → ℕ) (some : (i q : ℕ) → 0 < strong i q) (e : Embedding) (kept : IsEmbedding e) where
  tied_node : (i : ℕ) → i < length e.ising.fields → AllByRecursion (IsTied e i) (ties_of strong e i)
  tied_node i within =
      ties_of_node e kept i within (strong i) (some i) (drop 1 (chain_of e.chains i)) (chain_of e.parents i)
      (rest_in (chain_of e.chains i)) (node_at e kept i within).tree.ties

  tied_nodes : (a n : ℕ) → a + n ≤ length e.ising.fields
      → AllByRecursion (IsTiedFrom e a) (flat_map (ties_of strong e) (range_with_len a n))
  tied_nodes a n high =
      each_of_range (IsTiedFrom e a) (ties_of strong e) a n
      (λ i low below. each (λ f tied. (i, low, tied)) (ties_of strong e i) (tied_node i (omega (arith, below, high))))

  all_ties_apart : (a n : ℕ) → a + n ≤ length e.ising.fields
      → AreApart (flat_map (ties_of strong e) (range_with_len a n))
  all_ties_apart a zero high = tt
  all_ties_apart a (suc n) high =
      let within : a < length e.ising.fields = omega (arith, high) in
      apart-append (ties_of strong e a) (flat_map (ties_of strong e) (range_with_len (a + 1) n))
      (node_ties_apart strong e kept a within) (all_ties_apart (a + 1) n (omega (arith, high)))
      (apart_kinds (IsTied e a) (IsTiedFrom e (a + 1))
      (λ f g tied from. numbers_apart e kept a a from.0 from.0 f g tied.0 from.2.0 (λ same again. omega (arith, same, from.1)))
      (ties_of strong e a) (flat_map (ties_of strong e) (range_with_len (a + 1) n)) (tied_node a within)
      (tied_nodes (a + 1) n (omega (arith, high))))

  -- no two of them have one pair
  pub couplings_apart : AreApart (placed e.ising.couplings e.places ++ ties_by strong e)
  couplings_apart =
      let pairs = recursion_from_All _ _ kept.ising.couplings in
      let n = length e.ising.fields in
      apart-append (placed e.ising.couplings e.places) (ties_by strong e)
      (placed_apart e kept e.ising.couplings e.places pairs kept.placed
      (rising_from_ordered e.ising.couplings (as_pairs (2 ^ 32) n e.ising.couplings (omega (arith, kept.ising.narrow)) pairs) kept.ising.ordered))
      (all_ties_apart 0 n (omega arith)) (apart_kinds (IsPlaced e) (IsTiedFrom e 0)
      (λ f g one from. numbers_apart e kept one.0 one.1 from.0 from.0 f g one.3 from.2.0 (λ same again. omega (arith, same, again, one.2)))
      (placed e.ising.couplings e.places) (ties_by strong e)
      (all_placed e kept e.ising.couplings e.places pairs kept.placed)
      (tied_nodes 0 n (omega arith)))

  -- each is a coupling of two qubits, and not 0
  pub all_couplers : AllByRecursion (IsCoupler e.qubits) (placed e.ising.couplings e.places ++ ties_by strong e)
  all_couplers =
      let pairs = couplers_placed e kept in
      let tied = tied_nodes 0 (length e.ising.fields) in
      let append = all_append (IsCoupler e.qubits) (placed e.ising.couplings e.places) (ties_by strong e) in
      grind (arith, nat_tests, recursion_from_All, each)

  -- the image is an Ising form
  pub by_is_ising : ising_total (image_by strong e) ≤ 2 ^ 124 → IsIsing (image_by strong e)
  by_is_ising small =
      let width = length-map-range_with_len (field_at (all_shares e)) 0 e.qubits in
      let ordered =
      in_order_rises e.qubits (placed e.ising.couplings e.places ++ ties_by strong e) kept.few all_couplers
      couplings_apart in
      record {
        ordered = ordered_from_rising (image_by strong e).couplings ordered.0 ordered.1;
        couplings =
            subst (λ n. All (IsCoupler n) (image_by strong e).couplings) (sym width)
            (All-from_recursion _ _ ordered.2);
        narrow = omega (arith, width, kept.few);
        small = small;
      }

-- a strength is not 0
some_strength : (e : Embedding) (i q : ℕ) → 0 < by_node e i q
some_strength e i q = omega arith

-- so it is with ties as strong as their nodes ask
pub image_is_ising : (e : Embedding) → IsEmbedding e → (ising_total e.ising + 1) * 2 ^ 21 ≤ 2 ^ 124
    → IsIsing (image e)
image_is_ising e kept small =
    by_is_ising (by_node e) (some_strength e) e kept (omega (arith, total_grows e kept, small))

-- ---- what sorting makes of the couplings

-- how many entries have this number
abbrev pub numbered : ℕ → List Entry → ℕ
numbered n es = count_by (λ e. pair_number e == n) es

numbered-cons : (n : ℕ) (e : Entry) (es : List Entry)
    → numbered n (e ∷ es) ≡ cond (pair_number e == n) 1 0 + numbered n es
numbered-cons n e es = simp sum_by-cons

none_numbered : (n : ℕ) (es : List Entry) → AllByRecursion (λ f. n ≢ pair_number f) es
    → numbered n es ≡ 0
none_numbered n [] all = refl
none_numbered n (e ∷ es) all =
    let rest = none_numbered n es all.1 in
    simp sum_by-cons (grind (arith, nat_tests))

-- entries of different pairs have each number at most once
pub few_numbered : (es : List Entry) → AreApart es → (n : ℕ) → numbered n es ≤ 1
few_numbered [] apart n = omega arith
few_numbered (e ∷ es) apart n = elim (cases_eq (pair_number e) n) [
  | inl same ↦
      let none = none_numbered n es (rw same at apart.0) in
      simp sum_by-cons (grind (arith, nat_tests))
  | inr other ↦ let rest = few_numbered es apart.1 n in simp sum_by-cons (grind (arith, nat_tests))
]

-- a number that none of them has, and that is not above theirs, is below theirs
below_all : (n : ℕ) (es : List Entry) → AllByRecursion (λ f. n ≤ pair_number f) es
    → numbered n es ≡ 0 → AllByRecursion (λ f. n < pair_number f) es
below_all n [] up none = tt
below_all n (e ∷ es) up none =
    let parts : (cond {A = ℕ} (pair_number e == n) 1 0 ≡ 0) × (numbered n es ≡ 0) =
    (omega (arith, numbered-cons n e es), omega (arith, numbered-cons n e es)) in
    (grind (arith, nat_tests), below_all n es up.1 parts.1)

-- sorted entries of different pairs rise
pub rises_from_sorted : (es : List Entry) → IsNonDecreasingBy pair_number es
    → ((n : ℕ) → numbered n es ≤ 1) → Rises es
rises_from_sorted [] sorted few = tt
rises_from_sorted (e ∷ es) sorted few =
    let n = pair_number e in
    let at_most = few n in
    let none : numbered n es ≡ 0 =
    let cons = numbered-cons n e es in grind (arith, nat_tests) in (
      below_all n es
          (recursion_from_All _ es (λ k d in'. sorted 0 (suc k) d (omega arith) (omega (arith, in'))))
          none,
      rises_from_sorted es
          (λ i j d le in'. sorted (suc i) (suc j) d (omega (arith, le)) (omega (arith, in')))
          (λ m. omega (arith, numbered-cons m e es, few m)),
    )

-- sorted by their numbers they are in order
pub sorted_is_in_order : (n : ℕ) (from to : List Entry) → n ≤ 2 ^ 20
    → AllByRecursion (IsCoupler n) from → AreApart from → IsPermutation from to
    → IsNonDecreasingBy pair_number to → to ≡ in_order from
sorted_is_in_order n from to few all apart moved sorted =
    let here : AllByRecursion (IsCoupler n) to =
    recursion_from_All (IsCoupler n) to
    (All-permutation (IsCoupler n) from to moved (All-from_recursion (IsCoupler n) from all)) in
    let once : (m : ℕ) → numbered m to ≤ 1 =
    λ m. omega (
      arith,
      sum_by-IsPermutation (λ f. cond (pair_number f == m) 1 0) from to moved,
      few_numbered from apart m,
    ) in
    let ordered = in_order_rises n from few all apart in
    same_entries to (in_order from) (as_pairs (2 ^ 32) n to (omega (arith, few)) here) ordered.0
    (rises_from_sorted to sorted once) ordered.1
    (each (λ (f : Entry) (h : IsCoupler n f). h.nonzero) to here)
    (each (λ (f : Entry) (h : IsCoupler n f). h.nonzero) (in_order from) ordered.2)
    (λ i j. total_by-IsPermutation (weight_for i j) from to moved
    ∙ sym (total_by-in_order (weight_for i j) from))

-- sorted, they are those of the image
pub sorted_is_image : (e : Embedding) → IsEmbedding e → (to : List Entry)
    → IsPermutation (all_ties e ++ placed e.ising.couplings e.places) to → IsNonDecreasingBy pair_number to
    → to ≡ (image e).couplings
sorted_is_image e kept to moved sorted =
    let places = placed e.ising.couplings e.places in
    let swapped = IsPermutation-trans (places ++ all_ties e) (all_ties e ++ places) to
    (IsPermutation-append_comm places (all_ties e)) moved in
    sorted_is_in_order e.qubits (places ++ all_ties e) to kept.few
    (all_couplers (by_node e) (some_strength e) e kept)
    (couplings_apart (by_node e) (some_strength e) e kept) swapped sorted
