-- A least state has no broken tie.
-- Nothing here has to be believed.
--
-- If a state had a broken tie, a side of it could be flipped, and the state with the flipped spins
-- would lie lower by 2 or more. So it was not a least one.
use Rattle.std.specs.Prelude.{◌≡◌, ◌<◌, ◌≤◌, ◌+ℤ◌, ◌≤ℤ◌}
use Rattle.chain_layer.proofs.Common.{ℕ, pos, Bool, true, false, not, cond, List, length, map, range_with_len, arith, ap, sym, ◌∙◌, inl, inr, subst, ints, cases_Bool, cases_lt, and_left, false_from_ne_true, get_or_past, length-map-range_with_len, get_or-map-range_with_len, IsLeastState, bit_at, ising_value, Embedding, IsEmbedding, chain_of, all_shares, field_at, whole_at, chain_within, each_at, image_value}
use Rattle.ising_form.specs.Isings as isings
use Rattle.cut_chains.specs.Sides.{cut_strength}
use Rattle.cut_chains.specs.CutImage.{cut_image}
use Rattle.cut_chains.specs.laws.Flips.{flipped}
use Rattle.cut_chains.specs.laws.Mended.{cut_energy, on_chain, flip_lowers}

-- ---- states with flipped spins

-- the state with the spins of a side flipped
abbrev flipped_state : Embedding → (ℕ → Bool) → List Bool → List Bool
flipped_state e side y = map (flipped side (bit_at y)) (range_with_len 0 e.qubits)

-- as a test of qubits it is the flipped spins, also beyond the last qubit, where no side is
flipped_bits : (e : Embedding) (side : ℕ → Bool) (y : List Bool) → length y ≡ e.qubits
    → ((q : ℕ) → e.qubits ≤ q → side q ≡ false)
    → bit_at (flipped_state e side y) ≡ flipped side (bit_at y)
flipped_bits e side y width out = λ k q. at_qubit q k
  where
    at_qubit : (q : ℕ) → bit_at (flipped_state e side y) q ≡ flipped side (bit_at y) q
    at_qubit q = elim (cases_lt q e.qubits) [
      | inl below ↦
          get_or-map-range_with_len (flipped side (bit_at y)) 0 e.qubits q q false below
          (omega arith)
      | inr above ↦
          let wide : length (flipped_state e side y) ≡ e.qubits =
          length-map-range_with_len (flipped side (bit_at y)) 0 e.qubits in
          let none = get_or_past (flipped_state e side y) q false (omega (arith, wide, above)) in
          let no_bit : bit_at y q ≡ false = get_or_past y q false (omega (arith, width, above)) in
          none ∙ sym no_bit ∙ sym (ap (λ b. cond b (not (bit_at y q)) (bit_at y q)) (out q above))
    ]

-- no qubit of a chain is beyond the last, so flipping a side of it changes no bit that a state does
-- not have
not_beyond : (e : Embedding) → IsEmbedding e → (i : ℕ) → i < length e.ising.fields
    → (is_on : ℕ → Bool) (q : ℕ) → e.qubits ≤ q → on_chain (chain_of e.chains i) is_on q ≡ false
not_beyond e kept i within is_on q above =
    and_left _ _ (false_from_ne_true _ (λ in'.
    let below : q < e.qubits =
    each_at (λ p. p < e.qubits) (chain_of e.chains i) q (chain_within e kept i within) in' in
    omega (arith, above, below)))

-- a least state has no broken tie: else the state with a side flipped would lie below it
pub least_is_whole : (e : Embedding) → IsEmbedding e → (y : List Bool)
    → IsLeastState (isings.form_of (cut_image e)) y → (i : ℕ) → i < length e.ising.fields
    → whole_at e (bit_at y) i ≡ true
least_is_whole e kept y least i within = elim (cases_Bool (whole_at e (bit_at y) i)) [
  | inl whole ↦ whole
  | inr broken ↦
      let found = flip_lowers e kept (bit_at y) i within broken in
      let side = on_chain (chain_of e.chains i) found.0 in
      let z = flipped_state e side y in
      let fields = length-map-range_with_len (field_at (all_shares e)) 0 e.qubits in
      let width : length y ≡ e.qubits = least.width ∙ fields in
      let wide : length z ≡ length (cut_image e).fields =
      length-map-range_with_len (flipped side (bit_at y)) 0 e.qubits ∙ sym fields in
      let bits = flipped_bits e side y width (not_beyond e kept i within found.0) in
      let lower : (cut_energy e (bit_at z) +ℤ pos 2) ≤ℤ cut_energy e (bit_at y) =
      subst (λ s. (cut_energy e s +ℤ pos 2) ≤ℤ cut_energy e (bit_at y)) (sym bits) found.1 in
      let no_less : ising_value (cut_image e) y ≤ℤ ising_value (cut_image e) z =
      least.least z wide in
      absurd (omega (arith, ints, lower, no_less, image_value (cut_strength e) e kept y, image_value (cut_strength e) e kept z))
]
