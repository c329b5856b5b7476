-- How much each qubit weighs, and that it is small.
use Rattle.cut_chains.proofs.Common.{nat_tests, ints, at_map, ◌≡◌, Bool, true, false, replicate, ℕ, ◌+◌, ◌<◌, ◌≤◌, ◌^◌, List, map, length, get_or, ℤ, pos, unsigned_abs, ap, ◌∙◌, arith, range_with_len, All, All-from_recursion, get_or_past, length-map, get_or-replicate, fill_by_all, get_or-map-range_with_len, length-map-range_with_len, Entry, weight_total, node_entries, IsCoupler, weights-append, weights_within, is_in, chain_of, each_at, chain_within, Embedding, IsEmbedding, all_shares, field_at, placed, couplings_at, weights_of_image_fields, weights_placed, weight_of, couplers_placed}

-- a field weighs at most what all fields do
field_within : (hs : List ℤ) (i : ℕ)
    → get_or (map (λ h. unsigned_abs h) hs) i 0 ≤ weight_total (node_entries 0 hs)
field_within hs i =
    let here = at_map (λ h. unsigned_abs h) hs i in
    let within = weights_within hs i (pos 0) in
    let past = get_or_past (map (λ h. unsigned_abs h) hs) i 0 in
    let long = length-map hs (λ (h : ℤ). unsigned_abs h) in grind arith

abbrev image_fields : Embedding → List ℤ
image_fields e = map (field_at (all_shares e)) (range_with_len 0 e.qubits)

module _ (e : Embedding) (fs : List ℤ) (xs : List ℕ) (cs : List Entry) (fields : fs ≡ image_fields e)
    (same : xs ≡ map (λ h. unsigned_abs h) fs) (listed : cs ≡ placed e.ising.couplings e.places) where
  wide : length xs ≡ e.qubits
  wide =
      ap length same ∙ length-map fs (λ (h : ℤ). unsigned_abs h) ∙ ap length fields
      ∙ length-map-range_with_len (field_at (all_shares e)) 0 e.qubits

  -- the size of a field, and of all couplings that are placed
  pub first_small : IsEmbedding e → (i : ℕ) → get_or xs i 0 + weight_total cs < 2 ^ 127
  first_small kept i =
      let total = weights_of_image_fields e kept in
      let small = kept.ising.small in
      rw (same, fields, listed)
      (omega (arith, field_within (image_fields e) i, weights_placed, weights-append))

  -- the sizes of the fields, raised by those of the couplings, are the weights
  pub all_weights : (ys : List ℕ) → length ys ≡ length xs
      → ((i : ℕ) → i < length xs → get_or ys i 0 ≡ get_or xs i 0 + couplings_at i cs)
      → ys ≡ map (weight_of e) (range_with_len 0 e.qubits)
  all_weights ys size sums =
      let sizes = rw fields at same in
      let many = length-map-range_with_len (field_at (all_shares e)) 0 e.qubits in
      let all = wide in
      let get = get_or-map-range_with_len (field_at (all_shares e)) 0 e.qubits in
      let fill = fill_by_all (weight_of e) ys e.qubits 0 (size ∙ wide) in
      grind (arith, nat_tests, ints, at_map)

  -- the couplings that are placed are of qubits that have a weight
  pub first_couplers : IsEmbedding e → All (IsCoupler (length xs)) cs
  first_couplers kept = rw (listed, wide) (All-from_recursion _ _ (couplers_placed e kept))

-- ---- where the ties begin

pub chain_below : (e : Embedding) → IsEmbedding e → (j : ℕ) → j < length e.ising.fields → (q : ℕ)
    → is_in (chain_of e.chains j) q ≡ true → q < e.qubits
chain_below e kept j j_in q q_in =
    each_at (λ p. p < e.qubits) (chain_of e.chains j) q (chain_within e kept j j_in) q_in

-- each qubit of a chain holds its weight
pub all_held : (e : Embedding) → IsEmbedding e → (xs : List ℕ)
    → xs ≡ map (weight_of e) (range_with_len 0 e.qubits)
    → (j : ℕ) → j < length e.ising.fields → (q : ℕ) → is_in (chain_of e.chains j) q ≡ true
    → get_or xs q 0 ≡ weight_of e q
all_held e kept xs same j j_in q q_in =
    let below = chain_below e kept j j_in q q_in in
    rw same (get_or-map-range_with_len (weight_of e) 0 e.qubits q q 0 below (omega arith))

-- and none is marked
pub none_seen : (e : Embedding) → IsEmbedding e → (seen : List Bool) → seen ≡ replicate e.qubits false
    → (j : ℕ) → j < length e.ising.fields → (q : ℕ) → is_in (chain_of e.chains j) q ≡ true
    → get_or seen q true ≡ false
none_seen e kept seen same j j_in q q_in =
    rw same (get_or-replicate e.qubits q false true (chain_below e kept j j_in q q_in))
