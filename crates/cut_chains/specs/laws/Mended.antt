-- Where a tie is broken, the qubits of the lighter of its sides can be flipped, and the energy
-- falls by at least 2. Nothing here has to be believed.
--
-- The fields and placed couplings of that side give back at most twice its weight. The tie itself
-- gives twice its strength, which is one more than the weight, and no other tie changes.
use Rattle.std.specs.Prelude.{◌≡◌, ◌≢◌, ◌+◌, ◌*◌, ◌<◌, ◌==◌, ◌+ℤ◌, ◌≤ℤ◌, ◌&&◌, ◌∷◌}
use Rattle.chain_layer.proofs.Common.{zip_weaker, ℕ, ℤ, pos, unsigned_abs, Bool, true, false, not, List, [], length, drop, AllZip, range_with_len, arith, ap, sym, ◌∙◌, refl, inl, inr, ints, cases_eq, cases_lt, eq-eqb, ne_eqb, and_left, false_from_ne_true, length_all_zip, total_by, if_so, total_by-plus, Entry, is_in, chain_of, Embedding, IsEmbedding, IsTie, IsTree, parent_in, nodes_of, couplings_at, all_shares, ties, field_at, placed, range-same, hit, are_same, in_first, in_rest, node_at, whole_at, tied_energy, free_energy, chains_energy, chain_within, fields_spread, each_at, one_chain, rest_in, Once, AreOwn, own_parents, chain_once}
use Rattle.chain_layer.proofs.Ordered.{couplers_placed}
use Rattle.cut_chains.specs.Sides.{is_below, weight_of, side_weight, tie_strength, cut_strength}
use Rattle.cut_chains.specs.laws.Trees.{IsRooted, same_side, tied_below, parent_above}
use Rattle.cut_chains.specs.laws.Flips.{flipped, fields_flip, couplings_flip, side_counted, AreKept, ties_kept, IsCut, ties_mended, broken_tie}

-- ---- energies over spins

-- The ties of a node's chain. Each qubit of the chain after the first is tied to its parent by the
-- strength of its own tie.
abbrev pub node_ties : Embedding → ℕ → List Entry
node_ties e i = ties (cut_strength e i) (drop 1 (chain_of e.chains i)) (chain_of e.parents i)

-- what fields, placed couplings and the ties of all chains cost: the energy of the image, but for
-- the constant
abbrev pub cut_energy : Embedding → (ℕ → Bool) → ℤ
cut_energy e s = chains_energy (cut_strength e) e s

-- ---- the chain of a node

-- A tree on a chain without a qubit twice. So each qubit after the first has one parent, and a
-- look-up gives it.
pub record IsOnceTree (chain parents : List ℕ) : Type 0 where
  pub filled : chain ≢ []
  pub once : Once chain
  pub tree : IsTree chain parents

-- the chain of a node is such a tree, in any embedding
pub once_tree : (e : Embedding) → IsEmbedding e → (i : ℕ) → i < length e.ising.fields
    → IsOnceTree (chain_of e.chains i) (chain_of e.parents i)
once_tree e kept i within =
    let node = node_at e kept i within in
    record { filled = node.filled; once = chain_once e kept i within; tree = node.tree }

-- steps lead from each of its qubits to the first
pub rooted_tree : (first : ℕ) (cs ps : List ℕ) → IsOnceTree (first ∷ cs) ps → IsRooted first cs ps
rooted_tree first cs ps t = record {
  apart = t.once.0;
  leads = λ q in'. t.tree.rooted q (in_rest first q cs in');
}

-- its parents are those that a look-up gives
parents_of_tree : (chain ps : List ℕ) → IsOnceTree chain ps
    → AreOwn (drop 1 chain) ps (drop 1 chain) ps
parents_of_tree [] ps t = absurd (t.filled refl)
parents_of_tree (first ∷ cs) ps t = own_parents cs ps t.once.1 (length_all_zip _ _ _ t.tree.ties)

-- ---- the lighter side of a tie

-- A side of the tie of the qubit c: each other tie has both ends on it or none. The chain's first
-- qubit has no tie of its own, so ties are named by the qubits after it.
pub record IsSide (chain parents : List ℕ) (c : ℕ) (is_on : ℕ → Bool) : Type 0 where
  -- the ends of another tie are both on the side, or both are not
  pub same : (q : ℕ) → is_in (drop 1 chain) q ≡ true → (q ≢ c)
      → is_on q ≡ is_on (parent_in (drop 1 chain) parents q)
  -- of the tie of c one end is on the side and the other is not
  pub cut : is_on (parent_in (drop 1 chain) parents c) ≡ not (is_on c)

-- the qubits below c are a side of its tie
below_is_side : (first : ℕ) (cs ps : List ℕ) (c : ℕ) → IsRooted first cs ps → is_in cs c ≡ true
    → IsSide (first ∷ cs) ps c (is_below (first ∷ cs) ps c)
below_is_side first cs ps c root c_in = record {
  same = λ q in' other. same_side first cs ps root c q c_in in' other;
  cut = parent_above first cs ps root c c_in ∙ sym (ap not (tied_below first cs ps root c));
}

-- and so are all others
others_are_side : (chain parents : List ℕ) (c : ℕ) (is_on : ℕ → Bool) → IsSide chain parents c is_on
    → IsSide chain parents c (λ r. not (is_on r))
others_are_side chain parents c is_on side = record {
  same = λ q in' other. ap not (side.same q in' other);
  cut = ap not side.cut;
}

-- the strength of the tie is one more than the weight of one of its sides: of the one below where
-- both weigh the same
lighter_side : (weight : ℕ → ℕ) (first : ℕ) (cs ps : List ℕ) (c : ℕ) → IsRooted first cs ps
    → is_in cs c ≡ true → (is_on : ℕ → Bool) × IsSide (first ∷ cs) ps c is_on
    × (side_weight weight (first ∷ cs) is_on + 1 ≡ tie_strength weight (first ∷ cs) ps c)
lighter_side weight first cs ps c root c_in =
    let below = is_below (first ∷ cs) ps c in
    let side = below_is_side first cs ps c root c_in in
    let under : ℕ = side_weight weight (first ∷ cs) below in
    let over : ℕ = side_weight weight (first ∷ cs) (λ r. not (below r)) in
    elim (cases_lt over under) [
      | inl less ↦
          ((λ r. not (below r)), others_are_side (first ∷ cs) ps c below side, omega (arith, less))
      | inr more ↦ (below, side, omega (arith, more))
    ]

-- ---- what flipping it does

-- the qubits of a chain that are on a side
abbrev pub on_chain : List ℕ → (ℕ → Bool) → ℕ → Bool
on_chain chain is_on q = is_in chain q && is_on q

-- for a qubit of the chain this is the test itself
chosen : (chain : List ℕ) (is_on : ℕ → Bool) (q : ℕ) → is_in chain q ≡ true
    → on_chain chain is_on q ≡ is_on q
chosen chain is_on q in' = ap (λ b. b && is_on q) in'

-- the ties of the chain itself: when a side of c's tie is flipped, and that tie is broken, each tie
-- of the list is as `IsCut` says. It goes along the qubits after the first and their parents, of
-- which a rest is left
cut_ties_of_chain : (s : ℕ → Bool) (chain parents : List ℕ) (c : ℕ) (is_on : ℕ → Bool)
    → IsSide chain parents c is_on → are_same (s c) (s (parent_in (drop 1 chain) parents c)) ≡ false
    → (qs ps : List ℕ) → ((q : ℕ) → is_in qs q ≡ true → is_in (drop 1 chain) q ≡ true)
    → ((q : ℕ) → is_in (drop 1 chain) q ≡ true → is_in chain q ≡ true)
    → AreOwn (drop 1 chain) parents qs ps → AllZip (IsTie chain) qs ps
    → AllZip (IsCut (on_chain chain is_on) s c) qs ps
cut_ties_of_chain s chain parents c is_on side broken [] [] ins rest owns ties = tt
cut_ties_of_chain s chain parents c is_on side broken [] (p ∷ ps) ins rest owns ties = ties
cut_ties_of_chain s chain parents c is_on side broken (q ∷ qs) [] ins rest owns ties = ties
cut_ties_of_chain s chain parents c is_on side broken (q ∷ qs) (p ∷ ps) ins rest owns ties =
    let q_in = ins q (in_first q qs) in
    let at_q = chosen chain is_on q (rest q q_in) in
    let at_p = chosen chain is_on p ties.0.inside in (
      record {
        same = λ other. at_q ∙ side.same q q_in other ∙ ap is_on owns.0 ∙ sym at_p;
        cut = λ same. let cut = side.cut in let own = owns.0 in cc;
        broken = λ same. let own = owns.0 in cc;
      },
      cut_ties_of_chain s chain parents c is_on side broken qs ps
          (λ r in'. ins r (in_rest q r qs in')) rest owns.1 ties.1,
    )

-- A broken tie and a side of it: the strength of the tie is one more than the weight of the side.
-- This is all that the flip needs to know of a chain and its parents.
pub record IsLight (weight : ℕ → ℕ) (s : ℕ → Bool) (chain parents : List ℕ) (c : ℕ)
    (is_on : ℕ → Bool) : Type 0 where
  -- what is flipped are the chain's qubits on the side, and of its ties just that of c has one end
  -- there
  pub cuts : AllZip (IsCut (on_chain chain is_on) s c) (drop 1 chain) parents
  -- c is a qubit after the first, so it has a tie
  pub inside : is_in (drop 1 chain) c ≡ true
  -- the qubits after the first are different, so c has just one
  pub once : Once (drop 1 chain)
  -- flipping the side gives back at most twice its weight, which is 2 less than twice the strength
  pub light : side_weight weight chain is_on + 1 ≡ tie_strength weight chain parents c

-- of the broken tie of the qubit c in the chain of node i
abbrev IsLightAt : Embedding → (ℕ → Bool) → ℕ → ℕ → (ℕ → Bool) → Type 0
IsLightAt e s i = IsLight (weight_of e) s (chain_of e.chains i) (chain_of e.parents i)

-- each broken tie has such a side
light_side : (weight : ℕ → ℕ) (s : ℕ → Bool) (chain parents : List ℕ) → IsOnceTree chain parents
    → (c : ℕ) → is_in (drop 1 chain) c ≡ true
    → are_same (s c) (s (parent_in (drop 1 chain) parents c)) ≡ false
    → (is_on : ℕ → Bool) × IsLight weight s chain parents c is_on
light_side weight s [] parents t c c_in broken = absurd (t.filled refl)
light_side weight s (first ∷ cs) parents t c c_in broken =
    let light = lighter_side weight first cs parents c (rooted_tree first cs parents t) c_in in
    let cuts =
    cut_ties_of_chain s (first ∷ cs) parents c light.0 light.1 broken cs parents (λ q in'. in')
    (λ q in'. in_rest first q cs in') (parents_of_tree (first ∷ cs) parents t) t.tree.ties in
    (light.0, record { cuts = cuts; inside = c_in; once = t.once.1; light = light.2 })

-- The ties of another chain, of which no qubit is flipped. Each of its ties has no end on the side,
-- so both ends are alike.
others_kept : (side : ℕ → Bool) (chain qs ps : List ℕ)
    → ((q : ℕ) → is_in chain q ≡ true → side q ≡ false)
    → ((q : ℕ) → is_in qs q ≡ true → is_in chain q ≡ true) → AllZip (IsTie chain) qs ps
    → AreKept side qs ps
others_kept side chain qs ps none ins ties =
    zip_weaker (IsTie chain) (λ q p. side q ≡ side p) qs ps
    (λ q p in' tie. none q (ins q in') ∙ sym (none p tie.inside)) ties

-- the side of a chain has no qubit of another, since a qubit is in one chain at most
not_on_other : (e : Embedding) → IsEmbedding e → (i j : ℕ) → i < length e.ising.fields
    → j < length e.ising.fields → (j ≢ i) → (is_on : ℕ → Bool) (q : ℕ)
    → is_in (chain_of e.chains j) q ≡ true → on_chain (chain_of e.chains i) is_on q ≡ false
not_on_other e kept i j i_in j_in other is_on q in' =
    and_left (is_in (chain_of e.chains i) q) (is_on q) (false_from_ne_true _ (λ here.
    other (one_chain e.chains q j i (kept.once q) (omega (arith, j_in, kept.counted))
    (omega (arith, i_in, kept.counted)) in' here)))

-- the ties of one node, before and after: those of node i cost less by twice the strength of the
-- broken tie, and those of every other node what they cost
tied_flip : (e : Embedding) → IsEmbedding e → (s : ℕ → Bool) (i c : ℕ) (is_on : ℕ → Bool)
    → IsLightAt e s i c is_on → i < length e.ising.fields → (j : ℕ) → j < length e.ising.fields
    → tied_energy (cut_strength e) e (flipped (on_chain (chain_of e.chains i) is_on) s) j
    +ℤ if_so (j == i) (pos (2 * cut_strength e i c)) ≡ tied_energy (cut_strength e) e s j
tied_flip e kept s i c is_on light i_in j j_in =
    let side = on_chain (chain_of e.chains i) is_on in
    elim (cases_eq j i) [
      | inl same ↦
          let mended =
          ties_mended side s (cut_strength e i) c (drop 1 (chain_of e.chains i)) (chain_of e.parents i)
          light.once light.inside light.cuts in
          rw (same, eq-eqb i i refl) mended
      | inr other ↦
          let node = node_at e kept j j_in in
          let kept_ties =
          others_kept side (chain_of e.chains j) (drop 1 (chain_of e.chains j))
          (chain_of e.parents j)
          (not_on_other e kept i j i_in j_in other is_on)
          (λ q in'. each_at (λ p. is_in (chain_of e.chains j) p ≡ true)
          (drop 1 (chain_of e.chains j)) q (rest_in (chain_of e.chains j)) in')
          node.tree.ties in
          let stays =
          ties_kept side s (cut_strength e j) (drop 1 (chain_of e.chains j)) (chain_of e.parents j)
          kept_ties in
          rw (ne_eqb j i other) (omega (arith, ints, stays))
    ]

-- All ties cost less by twice the strength of the broken one. It is the sum over all nodes of what
-- a flip does to the ties of one.
all_ties_flip : (e : Embedding) → IsEmbedding e → (s : ℕ → Bool) (i c : ℕ) (is_on : ℕ → Bool)
    → IsLightAt e s i c is_on → i < length e.ising.fields
    → total_by (tied_energy (cut_strength e) e (flipped (on_chain (chain_of e.chains i) is_on) s)) (nodes_of e)
    +ℤ pos (2 * cut_strength e i c) ≡ total_by (tied_energy (cut_strength e) e s) (nodes_of e)
all_ties_flip e kept s i c is_on light within =
    let n = length e.ising.fields in
    let after : ℕ → ℤ = tied_energy (cut_strength e) e (flipped (on_chain (chain_of e.chains i) is_on) s) in
    let won : ℕ → ℤ = λ j. if_so (j == i) (pos (2 * cut_strength e i c)) in
    let each =
    range-same (λ j. after j +ℤ won j) (tied_energy (cut_strength e) e s) 0 n
    (λ j l. tied_flip e kept s i c is_on light within j (omega (arith, l))) in
    let found =
    hit (λ j. pos (2 * cut_strength e i c)) i 0 n (omega arith) (omega (arith, within)) in
    omega (arith, ints, each, total_by-plus after won (nodes_of e), found)

-- ---- fields and placed couplings

-- What fields and placed couplings give back is at most twice the weight of the side. So the whole
-- flip saves 2 or more: the ties save twice the strength, which is one more than the weight.
free_flip : (e : Embedding) → IsEmbedding e → (s : ℕ → Bool) (i : ℕ) (is_on : ℕ → Bool)
    → i < length e.ising.fields → free_energy e (flipped (on_chain (chain_of e.chains i) is_on) s)
    ≤ℤ (free_energy e s +ℤ pos (2 * side_weight (weight_of e) (chain_of e.chains i) is_on))
free_flip e kept s i is_on within =
    let chain = chain_of e.chains i in
    let side = on_chain chain is_on in
    let f : ℕ → ℤ = field_at (all_shares e) in
    let pairs = placed e.ising.couplings e.places in
    let of_field : ℕ → ℤ = λ q. if_so (side q) (pos (2 * unsigned_abs (f q))) in
    let of_pairs : ℕ → ℤ = λ q. if_so (side q) (pos (2 * couplings_at q pairs)) in
    let of_fields = fields_flip side s f e.qubits in
    let after = fields_spread e kept (flipped side s) in
    let before = fields_spread e kept s in
    let pairs_low = couplings_flip side s e.qubits pairs (couplers_placed e kept) in
    let parts = total_by-plus of_field of_pairs (range_with_len 0 e.qubits) in
    let each =
    range-same (λ q. of_field q +ℤ of_pairs q) (λ q. if_so (side q) (pos (2 * weight_of e q))) 0
    e.qubits
    (λ q l. both (side q) (unsigned_abs (f q)) (couplings_at q pairs)) in
    let counted = side_counted (weight_of e) is_on e.qubits chain (chain_within e kept i within) in
    omega (arith, ints, of_fields, after, before, pairs_low, parts, each, counted)
  where
    both : (b : Bool) (m n : ℕ)
        → if_so b (pos (2 * m)) +ℤ if_so b (pos (2 * n)) ≡ if_so b (pos (2 * (m + n)))
    both true m n = omega (arith, ints)
    both false m n = refl

-- ---- the energy falls

-- The spins of a side of a broken tie can be flipped so that the energy falls. The state after the
-- flip is a bit for each qubit again, so no least state has a broken tie.
pub flip_lowers : (e : Embedding) → IsEmbedding e → (s : ℕ → Bool) (i : ℕ)
    → i < length e.ising.fields → whole_at e s i ≡ false → (is_on : ℕ → Bool)
    × ((cut_energy e (flipped (on_chain (chain_of e.chains i) is_on) s) +ℤ pos 2) ≤ℤ cut_energy e s)
flip_lowers e kept s i within broken =
    let chain = chain_of e.chains i in
    let parents = chain_of e.parents i in
    let t = once_tree e kept i within in
    let found =
    broken_tie s (parent_in (drop 1 chain) parents) (drop 1 chain) parents (parents_of_tree chain parents t)
    broken in
    let light = light_side (weight_of e) s chain parents t found.0 found.1 found.2 in (
      light.0,
      omega (
        arith,
        ints,
        free_flip e kept s i light.0 within,
        all_ties_flip e kept s i found.0 light.0 light.1 within,
        light.1.light,
      ),
    )
