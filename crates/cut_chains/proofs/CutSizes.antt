-- How much an image grows: its total, its offset and its size.
--
-- The two sides of a tie weigh no more than all qubits do, and these no more than twice the total.
-- So the lesser one weighs at most the total.
use Rattle.cut_chains.proofs.Common.{by_is_ising, nat_tests, ◌≡◌, ℕ, zero, suc, ◌+◌, ◌*◌, ◌<◌, ◌≤◌, ◌^◌, Bool, true, not, List, [], ◌∷◌, ◌++◌, length, drop, ℤ, pos, ◌+ℤ◌, ◌≤ℤ◌, unsigned_abs, refl, ap, ◌∙◌, arith, mul-le-mul_left, AllByRecursion, range_with_len, sum_by, min-le_left, min-le_right, ints, length-drop, drop_at, length-map-range_with_len, sum_by-cons, total_by, if_so, total_by-plus, Entry, weight_total, is_in, IsCoupler, weights-append, IsIsing, ising_total, ising_size, Embedding, IsEmbedding, embedding_size, chain_of, nodes_of, couplings_at, all_shares, placed, field_at, range-le, range-same, marked_ends, couplers_of, node_at, filled_lengths, chain_within, shares_within, sum_is, size, weights-in_order, weights-flat_map, fields_small, weights_of_shares, weights_of_image_fields, weights_placed, sums_le, few_qubits, sizes-append, sizes-in_order, sizes-le, sizes_of_nodes, sizes_of_couplers, weights_of_ties_by, length-placed, length-ties_by, is_below, weight_of, side_weight, cut_strength, ties, cut_ties, cut_image, cut_cost, cut_offset, Once, chain_once, node_ties, couplers_placed}
use Rattle.cut_chains.proofs.Subtrees.{once_spread}

-- ---- how much qubits weigh

-- both sides of a tie together are its chain
pub both_sides : (weight : ℕ → ℕ) (chain : List ℕ) (is_on : ℕ → Bool)
    → side_weight weight chain is_on + side_weight weight chain (λ r. not (is_on r))
    ≡ sum_by weight chain
both_sides weight [] is_on = refl
both_sides weight (q ∷ qs) is_on =
    let rest = both_sides weight qs is_on in simp sum_by-cons (grind (arith, nat_tests))

-- a chain weighs no more than all qubits: different qubits are some of all
pub chain_weighs : (weight : ℕ → ℕ) (n : ℕ) (chain : List ℕ) → Once chain
    → AllByRecursion (λ q. q < n) chain
    → pos (sum_by weight chain) ≤ℤ total_by (λ q. pos (weight q)) (range_with_len 0 n)
chain_weighs weight n chain once within =
    let same = range-le (λ q. if_so (is_in chain q) (pos (weight q))) (λ q. pos (weight q)) 0 n
    (λ q l. grind (arith, nat_tests, ints)) in
    omega (arith, ints, once_spread (λ q. true) weight n chain once within)

-- each coupling counts at both of its ends
ends_weigh : (n : ℕ) (cs : List Entry) → AllByRecursion (IsCoupler n) cs
    → total_by (λ q. pos (2 * couplings_at q cs)) (range_with_len 0 n) ≡ pos (4 * weight_total cs)
ends_weigh n cs couplers = marked_ends (λ q. true) n cs couplers ∙ twice cs
  where
    twice : (cs : List Entry) → total_by (λ (c : Entry). pos (2 * unsigned_abs c.weight)
        +ℤ pos (2 * unsigned_abs c.weight)) cs ≡ pos (4 * weight_total cs)
    twice [] = refl
    twice (c ∷ cs) = omega (arith, ints, sum_by-cons size c cs, twice cs)

-- all qubits weigh no more than twice the total
pub all_weigh : (e : Embedding) → IsEmbedding e
    → total_by (λ q. pos (weight_of e q)) (range_with_len 0 e.qubits)
    ≤ℤ pos (2 * ising_total e.ising)
all_weigh e kept =
    let f : ℕ → ℤ = λ q. pos (unsigned_abs (field_at (all_shares e) q)) in
    let pairs = placed e.ising.couplings e.places in
    let twice : ℕ → ℤ = λ q. pos (2 * couplings_at q pairs) in
    let once : ℕ → ℤ = λ q. pos (couplings_at q pairs) in
    let total = total_by-plus f once (range_with_len 0 e.qubits) in
    let range_same = range-same twice (λ q. once q +ℤ once q) 0 e.qubits (λ q l. omega (arith, ints)) in
    let total_plus = total_by-plus once once (range_with_len 0 e.qubits) in
    let ends = ends_weigh e.qubits pairs (couplers_placed e kept) in
    let fields = fields_small e.qubits (all_shares e) (shares_within e kept) in
    let sum = sum_is size (all_shares e) in
    omega (arith, ints, weights_placed, weights_of_shares, weights-append)

-- ---- how strong ties are

pub cut_strength-le : (e : Embedding) → IsEmbedding e → (i : ℕ) → i < length e.ising.fields
    → (q : ℕ) → cut_strength e i q ≤ ising_total e.ising + 1
cut_strength-le e kept i within q =
    let chain = chain_of e.chains i in
    let is_on = is_below chain (chain_of e.parents i) q in
    let below = side_weight (weight_of e) chain is_on in
    let others = side_weight (weight_of e) chain (λ r. not (is_on r)) in
    let both = both_sides (weight_of e) chain is_on in
    let weighs = chain_weighs (weight_of e) e.qubits chain (chain_once e kept i within)
    (chain_within e kept i within) in
    omega (arith, ints, all_weigh e kept, min-le_left below others, min-le_right below others)

sum_below : (most : ℕ) (f : ℕ → ℕ) (qs : List ℕ) → ((q : ℕ) → f q ≤ most)
    → sum_by f qs ≤ most * length qs
sum_below most f [] h = omega arith
sum_below most f (q ∷ qs) h = omega (arith, sum_by-cons f q qs, h q, sum_below most f qs h)

costs_below : (most : ℕ) (f g : ℕ → ℕ) (a n : ℕ) → ((i : ℕ) → i < a + n → f i ≤ most * g i)
    → sum_by f (range_with_len a n) ≤ most * sum_by g (range_with_len a n)
costs_below most f g a zero h = omega arith
costs_below most f g a (suc n) h =
    let rest = costs_below most f g (a + 1) n (λ i l. h i (omega (arith, l))) in
    simp sum_by-cons (grind (arith, nat_tests, ints))

pub cut_cost-le : (e : Embedding) → IsEmbedding e → cut_cost e ≤ (ising_total e.ising + 1) * 2 ^ 20
cut_cost-le e kept =
    let most = ising_total e.ising + 1 in
    let few : sum_by (λ i. length (chain_of e.chains i)) (nodes_of e) ≤ 2 ^ 20 =
    omega (arith, few_qubits e kept, kept.few) in
    let costs = costs_below most (λ i. sum_by (cut_strength e i) (drop 1 (chain_of e.chains i)))
    (λ i. length (chain_of e.chains i)) 0 (length e.ising.fields) (λ i l.
    let within : i < length e.ising.fields = omega (arith, l) in
    let shorter : length (drop 1 (chain_of e.chains i)) ≤ length (chain_of e.chains i) =
    omega (arith, length-drop 1 (chain_of e.chains i)) in
    let each = sum_below most _ (drop 1 (chain_of e.chains i)) (cut_strength-le e kept i within) in
    omega (arith, mul-le-mul_left most shorter)) in
    omega (arith, mul-le-mul_left most few)

-- ---- what the layer promises

costs_of_ties : (strong : ℕ → ℕ) (qs ps : List ℕ) → length qs ≤ length ps
    → sum_by strong qs ≤ weight_total (ties strong qs ps)
costs_of_ties strong [] ps h = omega arith
costs_of_ties strong (q ∷ qs) [] h = absurd (omega (arith, h))
costs_of_ties strong (q ∷ qs) (p ∷ ps) h =
    let rest = costs_of_ties strong qs ps (omega (arith, h)) in
    simp sum_by-cons (grind (arith, nat_tests, ints))

-- the cost is the size of all ties
cut_ties_cost : (e : Embedding) → IsEmbedding e → weight_total (cut_ties e) ≡ cut_cost e
cut_ties_cost e kept =
    let sums = sums_le (λ i. sum_by (cut_strength e i) (drop 1 (chain_of e.chains i)))
    (λ i. weight_total (node_ties e i)) 0 (length e.ising.fields)
    (λ i l.
    let long = filled_lengths e i (node_at e kept i (omega (arith, l))) in
    costs_of_ties (cut_strength e i) (drop 1 (chain_of e.chains i)) (chain_of e.parents i)
    (omega (arith, length-drop 1 (chain_of e.chains i)))) in
    omega (arith, weights_of_ties_by (cut_strength e) e, weights-flat_map)

-- and that of what stands behind the placed couplings
pub left_cost : (e : Embedding) → IsEmbedding e → (made : List Entry) (count : ℕ)
    → made ≡ placed e.ising.couplings e.places ++ cut_ties e
    → count ≡ length (placed e.ising.couplings e.places)
    → weight_total (drop count made) ≡ cut_cost e
left_cost e kept made count is many =
    let es = placed e.ising.couplings e.places in
    (λ k. weight_total (drop (many k) (is k)))
    ∙ ap weight_total (drop_at es (cut_ties e) (length es) refl) ∙ cut_ties_cost e kept

total_of_cut : (e : Embedding) → IsEmbedding e
    → ising_total (cut_image e) ≤ ising_total e.ising + cut_cost e
total_of_cut e kept =
    let ties = weights_of_ties_by (cut_strength e) e in
    omega (arith, weights-append, weights-in_order, weights_placed, weights_of_image_fields)

pub cut_total_grows : (e : Embedding) → IsEmbedding e
    → ising_total (cut_image e) + 1 ≤ (ising_total e.ising + 1) * 2 ^ 21
cut_total_grows e kept = omega (arith, total_of_cut e kept, cut_cost-le e kept)

pub cut_offset_small : (e : Embedding) → IsEmbedding e
    → unsigned_abs (cut_offset e) ≤ (ising_total e.ising + 1) * 2 ^ 20
cut_offset_small e kept = omega (arith, ints, cut_cost-le e kept)

pub cut_size_grows : (e : Embedding) → IsEmbedding e
    → ising_size (cut_image e) ≤ embedding_size e * 2
cut_size_grows e kept =
    let long = length-placed e.ising.couplings e.places in
    let sizes = sizes_of_couplers (length e.ising.fields) e.ising.couplings (couplers_of e kept) in
    let ties = length-ties_by (cut_strength e) e kept in
    omega (arith, length-map-range_with_len, sizes-append, sizes_of_nodes, sizes-in_order, sizes-le)

-- the strength of a tie is not 0
pub cut_some : (e : Embedding) (i q : ℕ) → 0 < cut_strength e i q
cut_some e i q = omega arith

-- the image is an Ising form
pub cut_is_ising : (e : Embedding) → IsEmbedding e → (ising_total e.ising + 1) * 2 ^ 21 ≤ 2 ^ 124
    → IsIsing (cut_image e)
cut_is_ising e kept small =
    by_is_ising (cut_strength e) (cut_some e) e kept (omega (arith, cut_total_grows e kept, small))
