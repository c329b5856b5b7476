-- The law of chains: aligning broken chains never pays. Nothing here has to be believed.
--
-- A broken tie costs twice its strength. Its node's shares and placed couplings give back at most
-- twice the sizes of the field and of the couplings at the node, which is less. So node by node, and
-- with twice its size for each end of a coupling whose chain is broken, no state lies below its
-- reading.
use Rattle.embedding_check.proofs.Common.{AllZip, arith, ap, ◌∙◌, refl, inl, inr, cases_Bool, or_cases, and_parts, length-drop, sum_by-cons, Entry, IsCoupler, is_in, Embedding, IsEmbedding, IsTree}
use Rattle.ising_form.proofs.Common.{AllByRecursion, ints, total_by, if_so, times_spin, size-times_spin}
use Rattle.std.specs.Prelude.{◌≡◌, ◌≢◌, ℕ, ◌-◌, ◌*◌, ◌<◌, ℤ, pos, neg_ℤ, ◌+ℤ◌, ◌≤ℤ◌, unsigned_abs, Bool, true, false, not, List, [], ◌∷◌, length, drop, sum_by}
use Rattle.std.proofs.lemmas.List.Elements.{AllZip-get_or, length_all_zip, recursion_from_All}
use Rattle.base.proofs.Totals.{total_by-plus}
use Rattle.chain_map.specs.Chains.{IsBetween, chain_of}
use Rattle.chain_layer.specs.Image.{nodes_of, field_of, couplings_at, strength, shares, ties, ties_cost, by_node, placed, offset, offset_by}
use Rattle.chain_layer.specs.laws.SpinSums.{spin_energy, pair_energy, range-le, range-same, times_spin-comm, marked_ends}
use Rattle.chain_layer.specs.laws.Whole.{is_whole, HasBit}
use Rattle.chain_layer.specs.laws.NodeEnergies.{ties_whole, ties_broken, shares_whole, shares_size, spins_low}

-- ---- the nodes

-- What is kept of one node. This is what the law of one node's chain needs of the embedding.
pub record IsNode (e : Embedding) (i : ℕ) : Type 0 where
  -- there is a first qubit, and a share of the field for each
  pub filled : chain_of e.chains i ≢ []
  -- each qubit after the first has a parent in the chain, and all lead to the first
  pub tree : IsTree (chain_of e.chains i) (chain_of e.parents i)

-- each node of an embedding has a chain that is not empty, and a tree on it
pub node_at : (e : Embedding) → IsEmbedding e → (i : ℕ) → i < length e.ising.fields → IsNode e i
node_at e kept i within =
    let listed : i < length e.chains = omega (arith, within, kept.counted) in
    record {
      filled = kept.filled i [] listed;
      tree = AllZip-get_or IsTree e.chains e.parents i [] [] kept.trees listed;
    }

-- no tie of the node's chain is broken: each qubit after the first has the bit of its parent
abbrev pub whole_at : Embedding → (ℕ → Bool) → ℕ → Bool
whole_at e s i = is_whole s (drop 1 (chain_of e.chains i)) (chain_of e.parents i)

-- X has the bit of each chain on which no tie is broken. Of a chain with a broken tie nothing is
-- said, so any rule for a tie or a minority will do.
abbrev pub Reads : Embedding → (s x : ℕ → Bool) → Type 0
Reads e s x = (i : ℕ) → i < length e.ising.fields → whole_at e s i ≡ true
    → HasBit s (chain_of e.chains i) (x i)

-- what the shares of a node's field cost for these spins
abbrev pub shares_energy : Embedding → (ℕ → Bool) → ℕ → ℤ
shares_energy e s i = total_by (spin_energy s) (shares (chain_of e.chains i) (field_of e i))

-- what the ties of a node's chain cost, by how strong the tie of a node's qubit is
abbrev pub tied_energy : (ℕ → ℕ → ℕ) → Embedding → (ℕ → Bool) → ℕ → ℤ
tied_energy strong e s i =
    total_by (pair_energy s) (ties (strong i) (drop 1 (chain_of e.chains i)) (chain_of e.parents i))

-- by so much the ties of a node's chain lower the energy where none of them is broken
abbrev whole_cost : (ℕ → ℕ → ℕ) → Embedding → ℕ → ℕ
whole_cost strong e i = sum_by (strong i) (drop 1 (chain_of e.chains i))

-- the same where all ties have the strength of the node: the strength, times the number of qubits
-- after the first
abbrev pub node_cost : Embedding → ℕ → ℕ
node_cost e i = strength e i * (length (chain_of e.chains i) - 1)

-- What broken ties at a node have to pay for. It is twice the sizes of the node's couplings where a
-- tie of its chain is broken, and 0 where none is: a placed coupling with a broken end may give
-- back that much.
abbrev pub charge : Embedding → (ℕ → Bool) → ℕ → ℤ
charge e s i = if_so (not (whole_at e s i)) (pos (2 * couplings_at i e.ising.couplings))

-- a chain has a parent for each qubit after the first
ties_matched : (e : Embedding) (i : ℕ) → IsNode e i
    → length (drop 1 (chain_of e.chains i)) ≡ length (chain_of e.parents i)
ties_matched e i node = length_all_zip _ _ _ node.tree.ties

-- one strength for each of these qubits
one_strength : (n : ℕ) (qs : List ℕ) → sum_by (λ _. n) qs ≡ n * length qs
one_strength n [] = omega arith
one_strength n (q ∷ qs) = omega (arith, sum_by-cons (λ _. n) q qs, one_strength n qs)

-- and what all ties save is what those of each node do
pub costs_same : (e : Embedding) → ties_cost e ≡ sum_by (node_cost e) (nodes_of e)
costs_same e =
    λ k. sum_by
    (λ i. (one_strength (strength e i) (drop 1 (chain_of e.chains i))
    ∙ ap (λ n. strength e i * n) (length-drop 1 (chain_of e.chains i))) k)
    (nodes_of e)

-- the energy of a node's chain is at least what the field costs at the bit that is read, less the
-- strength of its ties, and the charge. With a broken tie it is twice the strength higher, which
-- pays for twice the field and for the charge, and 2 is left
pub node_low : (e : Embedding) (s : ℕ → Bool) (i : ℕ) (b : Bool) → IsNode e i
    → (whole_at e s i ≡ true → HasBit s (chain_of e.chains i) b)
    → (times_spin b (field_of e i) +ℤ (neg_ℤ (pos (whole_cost (by_node e) e i)) +ℤ charge e s i))
    ≤ℤ (shares_energy e s i +ℤ tied_energy (by_node e) e s i)
node_low e s i b node reads =
    let chain = chain_of e.chains i in
    let paid = λ (t : Bool). if_so (not t) (pos (2 * couplings_at i e.ising.couplings)) in
    elim (cases_Bool (whole_at e s i)) [
      | inl whole ↦
          let shared = shares_whole s chain (field_of e i) b node.filled (reads whole) in
          let tied =
          ties_whole s (drop 1 chain) (chain_of e.parents i) (by_node e i) (ties_matched e i node) whole in
          omega (arith, ints, ap paid whole, shared, tied)
      | inr broken ↦
          let broken_ties =
          ties_broken s (drop 1 chain) (chain_of e.parents i) (strength e i) (ties_matched e i node) broken in
          let shares_low = spins_low s (shares chain (field_of e i)) in
          let shares_are = shares_size chain (field_of e i) node.filled in
          let size = size-times_spin b (field_of e i) in
          omega (arith, ints, ap paid broken, broken_ties, shares_low, shares_are, size)
    ]

-- ---- the couplings

-- a coupling on a pair with one qubit in each chain costs what it costs between the two nodes
both_ends : (s : ℕ → Bool) (c d : List ℕ) (place : ℕ × ℕ) (a b : Bool) (w : ℤ) → IsBetween c d place
    → HasBit s c a → HasBit s d b
    → times_spin (s place.0) (times_spin (s place.1) w) ≡ times_spin a (times_spin b w)
both_ends s c d place a b w between in_c in_d =
    elim (or_cases _ _ between.ends) [
      | inl ends ↦
          let parts = and_parts (is_in c place.0) (is_in d place.1) ends in
          ap (λ t. times_spin t (times_spin (s place.1) w)) (in_c place.0 parts.0)
          ∙ ap (λ t. times_spin a (times_spin t w)) (in_d place.1 parts.1)
      | inr ends ↦
          let parts = and_parts (is_in d place.0) (is_in c place.1) ends in
          ap (λ t. times_spin t (times_spin (s place.1) w)) (in_d place.0 parts.0)
          ∙ ap (λ t. times_spin b (times_spin t w)) (in_c place.1 parts.1)
          ∙ times_spin-comm b a w
    ]

-- two values of one coupling differ by at most twice its size
pairs_near : (a b c d : Bool) (w : ℤ)
    → times_spin a (times_spin b w) ≤ℤ (times_spin c (times_spin d w) +ℤ pos (2 * unsigned_abs w))
pairs_near a b c d w =
    let one = size-times_spin a (times_spin b w) in
    let other = size-times_spin c (times_spin d w) in
    omega (arith, ints, one, other, size-times_spin b w, size-times_spin d w)

-- a coupling costs no less than it does in the reading, with twice its size for each broken end.
-- Where neither end is broken it costs the same
one_low : (s : ℕ → Bool) (c d : List ℕ) (place : ℕ × ℕ) (a b u v : Bool) (w : ℤ) → IsBetween c d place
    → (u ≡ true → HasBit s c a) → (v ≡ true → HasBit s d b) → times_spin a (times_spin b w)
    ≤ℤ (times_spin (s place.0) (times_spin (s place.1) w)
    +ℤ (if_so (not u) (pos (2 * unsigned_abs w)) +ℤ if_so (not v) (pos (2 * unsigned_abs w))))
one_low s c d place a b true true w between in_c in_d =
    omega (arith, ints, both_ends s c d place a b w between (in_c refl) (in_d refl))
one_low s c d place a b true false w between in_c in_d =
    omega (arith, ints, pairs_near a b (s place.0) (s place.1) w)
one_low s c d place a b false v w between in_c in_d =
    let near = pairs_near a b (s place.0) (s place.1) w in grind (arith, ints)

-- the places of these couplings: each has one end in the chain of its first node, and one in that
-- of its second
abbrev pub ArePlaced : Embedding → List Entry → List (ℕ × ℕ) → Type 0
ArePlaced e cs ps = AllZip (λ c place. IsBetween (chain_of e.chains c.first) (chain_of e.chains c.second) place) cs ps

-- twice the size of a coupling for each end whose chain is broken
abbrev ends_charge : Embedding → (ℕ → Bool) → Entry → ℤ
ends_charge e s c =
    if_so (not (whole_at e s c.first)) (pos (2 * unsigned_abs c.weight))
    +ℤ if_so (not (whole_at e s c.second)) (pos (2 * unsigned_abs c.weight))

-- the same, summed over all couplings
placed_low : (e : Embedding) (s x : ℕ → Bool) → Reads e s x → (cs : List Entry) (ps : List (ℕ × ℕ))
    → AllByRecursion (IsCoupler (length e.ising.fields)) cs → ArePlaced e cs ps
    → total_by (pair_energy x) cs
    ≤ℤ (total_by (pair_energy s) (placed cs ps) +ℤ total_by (ends_charge e s) cs)
placed_low e s x reads [] [] couplers between = omega (arith, ints)
placed_low e s x reads [] (p ∷ ps) couplers between = absurd between
placed_low e s x reads (c ∷ cs) [] couplers between = absurd between
placed_low e s x reads (c ∷ cs) (p ∷ ps) couplers between =
    let c_up = couplers.0.upward in
    let here =
    one_low s (chain_of e.chains c.first) (chain_of e.chains c.second) p (x c.first) (x c.second)
    (whole_at e s c.first)
    (whole_at e s c.second)
    c.weight
    between.0
    (reads c.first (omega (arith, c_up, couplers.0.within)))
    (reads c.second couplers.0.within) in
    omega (arith, ints, here, placed_low e s x reads cs ps couplers.1 between.1)

-- where each chain has the bit of its node, the placed couplings cost what the couplings do between
-- the nodes
pub placed_equal : (e : Embedding) (s x : ℕ → Bool)
    → ((i : ℕ) → i < length e.ising.fields → HasBit s (chain_of e.chains i) (x i))
    → (cs : List Entry) (ps : List (ℕ × ℕ))
    → AllByRecursion (IsCoupler (length e.ising.fields)) cs → ArePlaced e cs ps
    → total_by (pair_energy s) (placed cs ps) ≡ total_by (pair_energy x) cs
placed_equal e s x has [] [] couplers between = refl
placed_equal e s x has [] (p ∷ ps) couplers between = absurd between
placed_equal e s x has (c ∷ cs) [] couplers between = absurd between
placed_equal e s x has (c ∷ cs) (p ∷ ps) couplers between =
    let c_up = couplers.0.upward in
    let here =
    both_ends s (chain_of e.chains c.first) (chain_of e.chains c.second) p (x c.first) (x c.second)
    c.weight
    between.0
    (has c.first (omega (arith, c_up, couplers.0.within)))
    (has c.second couplers.0.within) in
    omega (arith, ints, here, placed_equal e s x has cs ps couplers.1 between.1)

-- ---- all nodes and couplings

-- each coupling of an embedded form is one of two different nodes of it, and is not 0
pub couplers_of : (e : Embedding) → IsEmbedding e → AllByRecursion (IsCoupler (length e.ising.fields)) e.ising.couplings
couplers_of e kept = recursion_from_All _ _ kept.ising.couplings

-- negated numbers sum up to the negation of their sum
pub costs_add_up : (f : ℕ → ℕ) (is : List ℕ)
    → total_by (λ i. neg_ℤ (pos (f i))) is ≡ neg_ℤ (pos (sum_by f is))
costs_add_up f [] = refl
costs_add_up f (i ∷ is) = omega (arith, ints, costs_add_up f is, sum_by-cons f i is)

-- the energy of a form, but for the constant: its nodes and its couplings
abbrev pub read_energy : Embedding → (ℕ → Bool) → ℤ
read_energy e x =
    total_by (λ i. times_spin (x i) (field_of e i)) (nodes_of e) +ℤ total_by (pair_energy x) e.ising.couplings

-- what fields and placed couplings cost on the qubits
abbrev pub free_energy : Embedding → (ℕ → Bool) → ℤ
free_energy e s =
    total_by (shares_energy e s) (nodes_of e)
    +ℤ total_by (pair_energy s) (placed e.ising.couplings e.places)

-- and with the ties of all chains: the energy of the image, but for the constant
abbrev pub chains_energy : (ℕ → ℕ → ℕ) → Embedding → (ℕ → Bool) → ℤ
chains_energy strong e s = free_energy e s +ℤ total_by (tied_energy strong e s) (nodes_of e)

-- The energy of all chains and placed couplings is at least that of the form at the bits that are
-- read, and the offset. What the charges of the nodes add up to is exactly what broken ends may
-- give back, so they cancel.
pub chains_low : (e : Embedding) → IsEmbedding e → (s x : ℕ → Bool) → Reads e s x
    → (read_energy e x +ℤ offset e) ≤ℤ chains_energy (by_node e) e s
chains_low e kept s x reads =
    let n = length e.ising.fields in
    let field : ℕ → ℤ = λ i. times_spin (x i) (field_of e i) in
    let cost : ℕ → ℤ = λ i. neg_ℤ (pos (whole_cost (by_node e) e i)) in
    let due : ℕ → ℤ = charge e s in
    let tied : ℕ → ℤ = tied_energy (by_node e) e s in
    let each =
    range-le (λ i. field i +ℤ (cost i +ℤ due i)) (λ i. shares_energy e s i +ℤ tied i) 0 n
    (λ i l. let within : i < n = omega (arith, l) in
    node_low e s i (x i) (node_at e kept i within) (reads i within)) in
    let parts = total_by-plus field (λ i. cost i +ℤ due i) (nodes_of e) in
    let saved = total_by-plus cost due (nodes_of e) in
    let on_qubits = total_by-plus (shares_energy e s) tied (nodes_of e) in
    let costs = costs_add_up (whole_cost (by_node e) e) (nodes_of e) in
    let ends_are = marked_ends (λ i. not (whole_at e s i)) n e.ising.couplings (couplers_of e kept) in
    let coupled =
    placed_low e s x reads e.ising.couplings e.places (couplers_of e kept) kept.placed in
    omega (arith, ints, each, parts, saved, on_qubits, costs, ends_are, coupled)

-- where no tie is broken, the energy of all chains and placed couplings is that of the form at the
-- bits of the chains, and the offset, however strong the ties are
pub chains_equal : (strong : ℕ → ℕ → ℕ) (e : Embedding) → IsEmbedding e → (s x : ℕ → Bool)
    → ((i : ℕ) → i < length e.ising.fields → whole_at e s i ≡ true)
    → ((i : ℕ) → i < length e.ising.fields → HasBit s (chain_of e.chains i) (x i))
    → chains_energy strong e s ≡ read_energy e x +ℤ offset_by strong e
chains_equal strong e kept s x whole has =
    let n = length e.ising.fields in
    let each =
    range-same (shares_energy e s) (λ i. times_spin (x i) (field_of e i)) 0 n
    (λ i l. let within : i < n = omega (arith, l) in
    shares_whole s (chain_of e.chains i) (field_of e i) (x i) (node_at e kept i within).filled
    (has i within)) in
    let each_tied =
    range-same (tied_energy strong e s) (λ i. neg_ℤ (pos (whole_cost strong e i))) 0 n
    (λ i l. let within : i < n = omega (arith, l) in
    ties_whole s (drop 1 (chain_of e.chains i)) (chain_of e.parents i) (strong i)
    (ties_matched e i (node_at e kept i within)) (whole i within)) in
    let coupled =
    placed_equal e s x has e.ising.couplings e.places (couplers_of e kept) kept.placed in
    omega (arith, ints, each, each_tied, costs_add_up (whole_cost strong e) (nodes_of e), coupled)
