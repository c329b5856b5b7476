-- How much an image grows: its total, its offset and its size.
--
-- The shares of a field have its size together, and a placed coupling has that of its coupling. A tie is
-- at most one more than the total, and there are fewer ties than qubits, since no qubit occurs twice.
use Rattle.chain_layer.proofs.Common.{nat_tests, ◌≡◌, ℕ, zero, suc, ◌+◌, ◌-◌, ◌*◌, ◌<◌, ◌≤◌, ◌^◌, cond, List, [], ◌∷◌, ◌++◌, map, length, drop, ℤ, pos, ◌+ℤ◌, ◌≤ℤ◌, unsigned_abs, refl, sym, ap, ◌∙◌, arith, mul-le-mul_left, mul-le-mul, All, ◌==◌, count_by, AllByRecursion, range_with_len, slice_index_or, sum_by, flat_map, concat, ints, length-drop, recursion_from_All, length-flat_map, fill_by_all, length-map-range_with_len, sum_by-cons, sum_by-append, sum_by-le-sum_by, total_by, if_so, total_by-plus, total_by-same, total_by-map, Entry, weight_total, entry_size, node_entries, IsCoupler, weights-append, weights_within, ising_total, ising_size, Embedding, IsEmbedding, embedding_size, chain_of, occurrences, nodes_of, field_of, couplings_at, strength, shares, ties, ties_by, cost_by, by_node, all_shares, placed, field_at, in_order, image, ties_cost, offset, range-le, range-zero, hit, total_by-in_order, shares_size, node_at, costs_same, couplers_of, shares_within}

-- ---- sums of naturals

pub sum_is : {X : Type 0} (f : X → ℕ) (xs : List X) → total_by (λ x. pos (f x)) xs ≡ pos (sum_by f xs)
sum_is f [] = refl
sum_is f (x ∷ xs) = omega (arith, ints, sum_is f xs, sum_by-cons f x xs)

abbrev pub size : Entry → ℕ
size e = unsigned_abs e.weight

pub weights-in_order : (es : List Entry) → weight_total (in_order es) ≡ weight_total es
weights-in_order es =
    omega (arith, ints, sum_is size (in_order es), sum_is size es, total_by-in_order (λ e. pos (size e)) es)

pub weights-flat_map : (f : ℕ → List Entry) (is : List ℕ)
    → weight_total (flat_map f is) ≡ sum_by (λ i. weight_total (f i)) is
weights-flat_map f [] = refl
weights-flat_map f (i ∷ is) = omega (arith, weights-append, weights-flat_map f is, sum_by-cons)

sums_same : (f g : ℕ → ℕ) (a n : ℕ) → ((i : ℕ) → i < a + n → f i ≡ g i)
    → sum_by f (range_with_len a n) ≡ sum_by g (range_with_len a n)
sums_same f g a zero h = refl
sums_same f g a (suc n) h =
    let rest = sums_same f g (a + 1) n (λ i l. h i (omega (arith, l))) in
    simp sum_by-cons (grind (arith, nat_tests, ints))

-- ---- fields

weights_of_nodes : (f : ℕ → ℤ) (a b n : ℕ)
    → weight_total (node_entries a (map f (range_with_len b n)))
    ≡ sum_by (λ q. unsigned_abs (f q)) (range_with_len b n)
weights_of_nodes f a b zero = refl
weights_of_nodes f a b (suc n) =
    let rest = weights_of_nodes f (suc a) (b + 1) n in
    simp sum_by-cons (grind (arith, nat_tests, ints))

weights_of_fields : (hs : List ℤ) → weight_total (node_entries 0 hs)
    ≡ sum_by (λ i. unsigned_abs (slice_index_or hs i (pos 0))) (range_with_len 0 (length hs))
weights_of_fields hs =
    let f : ℕ → ℤ = λ i. slice_index_or hs i (pos 0) in
    ap (λ l. weight_total (node_entries 0 l)) (fill_by_all f hs (length hs) (pos 0) refl (λ k h. refl))
    ∙ weights_of_nodes f 0 0 (length hs)

-- the fields of qubits are no larger than the shares
pub fields_small : (n : ℕ) (es : List Entry) → AllByRecursion (λ e. e.first < n) es
    → total_by (λ q. pos (unsigned_abs (field_at es q))) (range_with_len 0 n)
    ≤ℤ total_by (λ e. pos (size e)) es
fields_small n [] h = omega (arith, ints, range-zero 0 n)
fields_small n (e ∷ es) h =
    let first : ℕ → ℤ = λ q. if_so (q == e.first) (pos (size e)) in
    let rest : ℕ → ℤ = λ q. pos (unsigned_abs (field_at es q)) in
    let same = range-le (λ q. pos (unsigned_abs (field_at (e ∷ es) q))) (λ q. first q +ℤ rest q) 0 n
    (λ q l. grind (arith, nat_tests, ints)) in
    let more = hit (λ q. pos (size e)) e.first 0 n (omega arith) (omega (arith, h.0)) in
    omega (arith, ints, total_by-plus first rest (range_with_len 0 n), fields_small n es h.1)

-- all shares together have the sizes of the fields
pub weights_of_shares : (e : Embedding) → IsEmbedding e
    → weight_total (all_shares e) ≡ weight_total (node_entries 0 e.ising.fields)
weights_of_shares e kept =
    weights-flat_map (λ i. shares (chain_of e.chains i) (field_of e i)) (nodes_of e)
    ∙ sums_same _ (λ i. unsigned_abs (field_of e i)) 0 (length e.ising.fields)
    (λ i l. shares_size (chain_of e.chains i) (field_of e i) (node_at e kept i (omega (arith, l))).filled)
    ∙ sym (weights_of_fields e.ising.fields)

pub weights_of_image_fields : (e : Embedding) → IsEmbedding e
    → weight_total (node_entries 0 (image e).fields) ≤ weight_total (node_entries 0 e.ising.fields)
weights_of_image_fields e kept =
    let sum = sum_is (λ q. unsigned_abs (field_at (all_shares e) q)) (range_with_len 0 e.qubits) in
    let fields = fields_small e.qubits (all_shares e) (shares_within e kept) in
    omega (arith, ints, weights_of_nodes, sum_is size (all_shares e), weights_of_shares)

-- ---- couplings and ties

pub weights_placed : (cs : List Entry) (ps : List (ℕ × ℕ)) → weight_total (placed cs ps) ≤ weight_total cs
weights_placed [] ps = omega arith
weights_placed (c ∷ cs) [] = omega arith
weights_placed (c ∷ cs) (p ∷ ps) =
    let rest = weights_placed cs ps in simp sum_by-cons (grind (arith, nat_tests, ints))

weights_of_ties : (strong : ℕ → ℕ) (qs ps : List ℕ)
    → weight_total (ties strong qs ps) ≤ sum_by strong qs
weights_of_ties strong [] ps = omega arith
weights_of_ties strong (q ∷ qs) [] = omega arith
weights_of_ties strong (q ∷ qs) (p ∷ ps) =
    let rest = weights_of_ties strong qs ps in simp sum_by-cons (grind (arith, nat_tests, ints))

pub sums_le : (f g : ℕ → ℕ) (a n : ℕ) → ((i : ℕ) → i < a + n → f i ≤ g i)
    → sum_by f (range_with_len a n) ≤ sum_by g (range_with_len a n)
sums_le f g a zero h = omega arith
sums_le f g a (suc n) h =
    let rest = sums_le f g (a + 1) n (λ i l. h i (omega (arith, l))) in
    simp sum_by-cons (grind (arith, nat_tests, ints))

-- however strong they are, the ties weigh no more than they cost
pub weights_of_ties_by : (strong : ℕ → ℕ → ℕ) (e : Embedding)
    → weight_total (ties_by strong e) ≤ cost_by strong e
weights_of_ties_by strong e =
    let f : ℕ → List Entry =
    λ i. ties (strong i) (drop 1 (chain_of e.chains i)) (chain_of e.parents i) in
    let sums = sums_le (λ i. weight_total (f i)) (λ i. sum_by (strong i) (drop 1 (chain_of e.chains i))) 0
    (length e.ising.fields)
    (λ i l. weights_of_ties (strong i) (drop 1 (chain_of e.chains i)) (chain_of e.parents i)) in
    omega (arith, weights-flat_map f (nodes_of e))

-- the image's total is that of the form and the ties
pub total_of_image : (e : Embedding) → IsEmbedding e
    → ising_total (image e) ≤ ising_total e.ising + ties_cost e
total_of_image e kept =
    let ties = weights_of_ties_by (by_node e) e in
    omega (arith, weights-append, weights-in_order, weights_placed, weights_of_image_fields)

-- ---- how many ties there are

pub eqb-comm : (a b : ℕ) → (a == b) ≡ (b == a)
eqb-comm a b = grind (arith, nat_tests)

-- a chain's qubits, counted one number at a time
chain_counted : (n : ℕ) (chain : List ℕ) → AllByRecursion (λ q. q < n) chain
    → total_by (λ q. pos (count_by (λ p. p == q) chain)) (range_with_len 0 n) ≡ pos (length chain)
chain_counted n [] h = range-zero 0 n
chain_counted n (p ∷ ps) h =
    let first : ℕ → ℤ = λ q. if_so (q == p) (pos 1) in
    let rest : ℕ → ℤ = λ q. pos (count_by (λ r. r == q) ps) in
    let total = total_by-same (λ q. pos (count_by (λ r. r == q) (p ∷ ps))) (λ q. first q +ℤ rest q)
    (range_with_len 0 n) (λ q.
    let next = sum_by-cons (λ r. cond (r == q) 1 0) p ps in grind (arith, nat_tests, ints)) in
    let more = hit (λ q. pos 1) p 0 n (omega arith) (omega (arith, h.0)) in
    omega (arith, ints, total_by-plus first rest (range_with_len 0 n), chain_counted n ps h.1)

occurrences-cons : (q : ℕ) (c : List ℕ) (cs : List (List ℕ))
    → occurrences q (c ∷ cs) ≡ count_by (λ p. p == q) c + occurrences q cs
occurrences-cons q c cs = sum_by-append (λ p. cond (p == q) 1 0) c (concat cs)

chains_counted : (n : ℕ) (chains : List (List ℕ)) → AllByRecursion (AllByRecursion (λ q. q < n)) chains
    → total_by (λ q. pos (occurrences q chains)) (range_with_len 0 n) ≡ pos (sum_by length chains)
chains_counted n [] h = range-zero 0 n
chains_counted n (c ∷ cs) h =
    let first : ℕ → ℤ = λ q. pos (count_by (λ p. p == q) c) in
    let rest : ℕ → ℤ = λ q. pos (occurrences q cs) in
    let total = total_by-same (λ q. pos (occurrences q (c ∷ cs))) (λ q. first q +ℤ rest q) (range_with_len 0 n)
    (λ q. ap pos (occurrences-cons q c cs)) in
    let total_plus = total_by-plus first rest (range_with_len 0 n) in
    omega (arith, ints, chain_counted n c h.0, chains_counted n cs h.1, sum_by-cons)

ones_of : (a n : ℕ) → total_by (λ q. pos 1) (range_with_len a n) ≡ pos n
ones_of a zero = refl
ones_of a (suc n) = omega (arith, ints, ones_of (a + 1) n)

-- the chains have no more qubits than there are
few_in_chains : (n : ℕ) (chains : List (List ℕ)) → AllByRecursion (AllByRecursion (λ q. q < n)) chains
    → ((q : ℕ) → occurrences q chains ≤ 1) → sum_by length chains ≤ n
few_in_chains n chains h once =
    omega (
      arith,
      ints,
      chains_counted n chains h,
      ones_of 0 n,
      range-le (λ q. pos (occurrences q chains)) (λ q. pos 1) 0 n (λ q l. omega (arith, ints, once q)),
    )

all_within : (n : ℕ) (chains : List (List ℕ)) → AllByRecursion (λ c. All (λ q. q < n) c) chains
    → AllByRecursion (AllByRecursion (λ q. q < n)) chains
all_within n [] h = tt
all_within n (c ∷ cs) h = (recursion_from_All _ c h.0, all_within n cs h.1)

lengths_of : (chains : List (List ℕ))
    → sum_by (λ i. length (chain_of chains i)) (range_with_len 0 (length chains)) ≡ sum_by length chains
lengths_of chains =
    let f : ℕ → List ℕ = chain_of chains in
    let listed : chains ≡ map f (range_with_len 0 (length chains)) =
    fill_by_all f chains (length chains) [] refl (λ k h. refl) in
    let mapped : total_by (λ (c : List ℕ). pos (length c)) (map f (range_with_len 0 (length chains))) ≡ total_by (λ i. pos (length (f i))) (range_with_len 0 (length chains)) =
    total_by-map (λ (c : List ℕ). pos (length c)) f (range_with_len 0 (length chains)) in
    let same = ap (total_by (λ (c : List ℕ). pos (length c))) listed in
    let sum = sum_is (λ (c : List ℕ). length c) chains in
    let more = sum_is (λ i. length (f i)) (range_with_len 0 (length chains)) in omega (arith, ints)

-- the qubits of all chains, node by node
pub few_qubits : (e : Embedding) → IsEmbedding e
    → sum_by (λ i. length (chain_of e.chains i)) (nodes_of e) ≤ e.qubits
few_qubits e kept =
    omega (
      arith,
      ap (λ n. sum_by (λ i. length (chain_of e.chains i)) (range_with_len 0 n)) (sym kept.counted),
      lengths_of,
      few_in_chains e.qubits e.chains (all_within e.qubits e.chains (recursion_from_All _ _ kept.within)) kept.once,
    )

-- ---- how strong they are

pub couplings_at-le : (i : ℕ) (cs : List Entry) → couplings_at i cs ≤ weight_total cs
couplings_at-le i cs = sum_by-le-sum_by _ size cs (λ c. grind (arith, nat_tests))

pub strength-le : (e : Embedding) (i : ℕ) → i < length e.ising.fields
    → strength e i ≤ ising_total e.ising + 1
strength-le e i within = omega (arith, weights_within, couplings_at-le, weights-append)

costs_below : (most : ℕ) (f g : ℕ → ℕ) (a n : ℕ) → ((i : ℕ) → i < a + n → f i ≤ most)
    → sum_by (λ i. f i * (g i - 1)) (range_with_len a n) ≤ most * sum_by g (range_with_len a n)
costs_below most f g a zero h = omega arith
costs_below most f g a (suc n) h =
    let less : g a - 1 ≤ g a = omega arith in
    let here = mul-le-mul (h a (omega arith)) less in
    let rest = costs_below most f g (a + 1) n (λ i l. h i (omega (arith, l))) in
    simp sum_by-cons (grind (arith, nat_tests))

pub ties_cost-le : (e : Embedding) → IsEmbedding e → ties_cost e ≤ (ising_total e.ising + 1) * 2 ^ 20
ties_cost-le e kept =
    let most = ising_total e.ising + 1 in
    let few : sum_by (λ i. length (chain_of e.chains i)) (nodes_of e) ≤ 2 ^ 20 =
    omega (arith, few_qubits e kept, kept.few) in
    let costs = costs_below most (strength e) (λ i. length (chain_of e.chains i)) 0 (length e.ising.fields)
    (λ i l. strength-le e i (omega (arith, l))) in
    omega (arith, costs_same e, mul-le-mul_left most few)

-- ---- what the layer promises

pub total_grows : (e : Embedding) → IsEmbedding e
    → ising_total (image e) + 1 ≤ (ising_total e.ising + 1) * 2 ^ 21
total_grows e kept = omega (arith, total_of_image e kept, ties_cost-le e kept)

pub offset_small : (e : Embedding) → IsEmbedding e
    → unsigned_abs (offset e) ≤ (ising_total e.ising + 1) * 2 ^ 20
offset_small e kept = omega (arith, ints, ties_cost-le e kept)

-- ---- the size

pub sizes-append : (es ds : List Entry) → sum_by entry_size (es ++ ds) ≡ sum_by entry_size es + sum_by entry_size ds
sizes-append es ds = sum_by-append entry_size es ds

entry_size-le : (e : Entry) → entry_size e ≤ 4
entry_size-le e = grind (arith, nat_tests)

pub sizes-le : (es : List Entry) → sum_by entry_size es ≤ 4 * length es
sizes-le [] = omega arith
sizes-le (e ∷ es) = omega (arith, sum_by-cons entry_size e es, entry_size-le e, sizes-le es)

-- a coupling counts four
pub sizes_of_couplers : (n : ℕ) (cs : List Entry) → AllByRecursion (IsCoupler n) cs
    → sum_by entry_size cs ≡ 4 * length cs
sizes_of_couplers n [] h = refl
sizes_of_couplers n (c ∷ cs) h =
    let rest = sizes_of_couplers n cs h.1 in simp sum_by-cons (grind (arith, nat_tests, ints))

pub length-placed : (cs : List Entry) (ps : List (ℕ × ℕ)) → length (placed cs ps) ≤ length cs
length-placed [] ps = omega arith
length-placed (c ∷ cs) [] = omega arith
length-placed (c ∷ cs) (p ∷ ps) = omega (arith, length-placed cs ps)

length-ties : (strong : ℕ → ℕ) (qs ps : List ℕ) → length (ties strong qs ps) ≤ length qs
length-ties strong [] ps = omega arith
length-ties strong (q ∷ qs) [] = omega arith
length-ties strong (q ∷ qs) (p ∷ ps) = let rest = length-ties strong qs ps in omega (arith, rest)

pub length-ties_by : (strong : ℕ → ℕ → ℕ) (e : Embedding) → IsEmbedding e
    → length (ties_by strong e) ≤ e.qubits
length-ties_by strong e kept =
    let f : ℕ → List Entry =
    λ i. ties (strong i) (drop 1 (chain_of e.chains i)) (chain_of e.parents i) in
    let sums = sums_le (λ i. length (f i)) (λ i. length (chain_of e.chains i)) 0 (length e.ising.fields)
    (λ i l. omega (
      arith,
      length-ties (strong i) (drop 1 (chain_of e.chains i)) (chain_of e.parents i),
      length-drop 1 (chain_of e.chains i),
    )) in
    omega (arith, length-flat_map, few_qubits)

pub sizes-in_order : (es : List Entry) → sum_by entry_size (in_order es) ≡ sum_by entry_size es
sizes-in_order es =
    let total = total_by-in_order (λ e. pos (entry_size e)) es in
    omega (arith, ints, sum_is entry_size (in_order es), sum_is entry_size es)

-- a node counts one at most
pub sizes_of_nodes : (ws : List ℤ) (n : ℕ) → sum_by entry_size (node_entries n ws) ≤ length ws
sizes_of_nodes [] n = omega arith
sizes_of_nodes (w ∷ ws) n =
    let rest = sizes_of_nodes ws (suc n) in simp sum_by-cons (grind (arith, nat_tests, ints))

pub size_grows : (e : Embedding) → IsEmbedding e → ising_size (image e) ≤ embedding_size e * 2
size_grows e kept =
    omega (
      arith,
      length-map-range_with_len,
      sizes-append,
      sizes_of_nodes,
      sizes-in_order,
      sizes-le,
      length-placed,
      sizes_of_couplers (length e.ising.fields) e.ising.couplings (couplers_of e kept),
      length-ties_by (by_node e) e kept,
    )
