-- What the entries of a node add to the energy, for each of its bits: a base, and a step for each
-- of the other nodes whose bit is 1.
use Rattle.basic_solve.proofs.Common.{ne_eqb, cases_eq, nat_tests, ◌≡◌, ◌<◌, ◌≤◌, ◌&&◌, ℤ, pos, ◌+ℤ◌, ◌*ℤ◌, neg_ℤ, Bool, true, false, cond, List, [], ◌∷◌, ◌++◌, length, refl, arith, ap, ◌∙◌, eq-eqb, ints, total_by, if_so, Entry, Kind, bit_at, entry_energy, is_node, times_spin, spins_energy, base_of, step_at, AreOf}
use Rattle.basic_solve.proofs.TableValues.{bit_at-front, bit_at-next}

-- an entry that the last bit decides
module _ (y : List Bool) (e : Entry) (bit : Bool) (is : e.second ≡ length y) where
  second_is : bit_at (y ++ bit ∷ []) e.second ≡ bit
  second_is = ap (λ k. bit_at (y ++ bit ∷ []) k) is ∙ bit_at-next y [] bit

  -- a product of spins by its parts
  spins : (a b : Bool) (w : ℤ) → times_spin a (times_spin b w) ≡ times_spin b (neg_ℤ w) +ℤ if_so a
      (times_spin b (pos 2 *ℤ w))
  spins a b w = grind (arith, ints)

  bits : (a b : Bool) (w : ℤ) → if_so (a && b) w ≡ if_so (b && false) w +ℤ if_so a (if_so b w)
  bits a b w = grind (arith, ints)

  alone : (b : Bool) (w : ℤ) → if_so (b && b) w ≡ if_so (b && true) w +ℤ pos 0
  alone b w = grind (arith, ints)

  -- the entry of the node itself
  node_spins : e.first ≡ length y → is_node e ≡ true → spins_energy (y ++ bit ∷ []) e
      ≡ times_spin bit (cond (is_node e) e.weight (neg_ℤ e.weight))
      +ℤ cond (is_node e) (pos 0) (if_so (bit_at y e.first) (times_spin bit (pos 2 *ℤ e.weight)))
  node_spins f n = grind (arith, nat_tests, ints, bit_at-next y)

  node_parts : (kind : Kind) → e.first ≡ length y → is_node e ≡ true
      → entry_energy kind (y ++ bit ∷ []) e ≡ base_of kind bit e +ℤ step_at kind bit y e
  node_parts kind f n = grind (arith, nat_tests, ints, bit_at-next, second_is, alone, node_spins)

  -- a coupler
  coupler_spins : e.first < length y → is_node e ≡ false → spins_energy (y ++ bit ∷ []) e
      ≡ times_spin bit (cond (is_node e) e.weight (neg_ℤ e.weight))
      +ℤ cond (is_node e) (pos 0) (if_so (bit_at y e.first) (times_spin bit (pos 2 *ℤ e.weight)))
  coupler_spins f n = grind (arith, nat_tests, ints, bit_at-front, second_is, spins)

  coupler_parts : (kind : Kind) → e.first < length y → is_node e ≡ false
      → entry_energy kind (y ++ bit ∷ []) e ≡ base_of kind bit e +ℤ step_at kind bit y e
  coupler_parts kind f n =
      grind (arith, nat_tests, ints, bit_at-front, second_is, bits, coupler_spins)

  pub entry_parts : (kind : Kind) → e.first ≤ length y
      → entry_energy kind (y ++ bit ∷ []) e ≡ base_of kind bit e +ℤ step_at kind bit y e
  entry_parts kind le = grind (arith, nat_tests, ints, cases_eq, node_parts, eq-eqb, coupler_parts, ne_eqb)

pub entries_parts : (kind : Kind) (y : List Bool) (bit : Bool) (es : List Entry)
    → AreOf (length y) es → total_by (entry_energy kind (y ++ bit ∷ [])) es
    ≡ total_by (base_of kind bit) es +ℤ total_by (step_at kind bit y) es
entries_parts kind y bit [] p = refl
entries_parts kind y bit (e ∷ es) p =
    omega (arith, ints, entry_parts y e bit p.0.1 kind p.0.0, entries_parts kind y bit es p.1)
