-- States by new numbers, and their energies.
use Rattle.elimination_order.proofs.Common.{ints, eqb-true, nat_tests, ◌≡◌, ℕ, ◌<◌, ℤ, ◌+ℤ◌, Bool, true, false, ◌&&◌, cond, refl, sym, ap, subst, ◌∙◌, arith, List, [], ◌∷◌, length, map, cases_lt, length-map, get_or-map, ext_get_or, recursion_from_All, AllByRecursion, energy, if_so, total_by, total_by-map, total_by-IsPermutation, IsLeastState, bool_cmp, slice_cmp, Entry, Kind, Written, IsPlaced, IsWellFormed, bit_at, entry_energy, form_of, is_node, times_spin, IsFirstLeast, AreNumbers, IsRenumbered, IsFirstLeastBy, at_place, bits_by, renumbered, Greater, Qubo, Ising, Qubits}

-- ---- numbers

-- new numbers for the new numbers are the nodes
pub numbers-flip : (n : ℕ) (names numbers : List ℕ) → AreNumbers n names numbers
    → AreNumbers n numbers names
numbers-flip n names numbers are = grind (arith, are)

-- ---- energies

-- what a weight adds for two bits, which are one for a node
abbrev pair_energy : Kind → Bool → Bool → Bool → ℤ → ℤ
pair_energy Qubo node p q w = if_so (p && q) w
pair_energy Ising node p q w = cond node (times_spin p w) (times_spin p (times_spin q w))
pair_energy (Qubits graph) node p q w =
    cond node (times_spin p w) (times_spin p (times_spin q w))

entry-pair : (kind : Kind) (y : List Bool) (e : Entry) → entry_energy kind y e
    ≡ pair_energy kind (is_node e) (bit_at y e.first) (bit_at y e.second) e.weight
entry-pair kind y e = grind (arith, nat_tests)

pair-turned : (kind : Kind) (node p q : Bool) (w : ℤ) → (node ≡ true → p ≡ q)
    → pair_energy kind node p q w ≡ pair_energy kind node q p w
pair-turned kind node p q w same = grind (arith, nat_tests, ints)

module _ (n : ℕ) (names numbers : List ℕ) (are : AreNumbers n names numbers) where
  -- a node has its bit at its new number
  bit-carried : (y : List Bool) (v : ℕ) → v < n
      → bit_at (bits_by names y) (at_place numbers v) ≡ bit_at y v
  bit-carried y v h = grind (arith, nat_tests, get_or-map)

  -- new numbers are equal where the nodes are
  node-renumbered : (e : Entry) → IsPlaced n e → is_node (renumbered numbers e) ≡ is_node e
  node-renumbered e placed = grind (arith, nat_tests, are.named e.second placed.within)

  entry-carried : (kind : Kind) (y : List Bool) (e : Entry) → IsPlaced n e
      → entry_energy kind (bits_by names y) (renumbered numbers e) ≡ entry_energy kind y e
  entry-carried kind y e placed =
      let z = bits_by names y in
      let node = node-renumbered e placed in
      let low : e.first < n = omega (arith, placed.upward, placed.within) in
      let one = bit-carried y e.first low in
      let two = bit-carried y e.second placed.within in
      grind (arith, nat_tests, cases_lt, entry-pair, pair-turned, eqb-true)

  entries-carried : (kind : Kind) (y : List Bool) (es : List Entry) → AllByRecursion (IsPlaced n) es
      → total_by (λ e. entry_energy kind (bits_by names y) (renumbered numbers e)) es
      ≡ total_by (entry_energy kind y) es
  entries-carried kind y [] placed = refl
  entries-carried kind y (e ∷ es) placed =
      λ i. entry-carried kind y e placed.0 i +ℤ entries-carried kind y es placed.1 i

pub taken_back : (n : ℕ) (names numbers : List ℕ) (y : List Bool)
    → AreNumbers n names numbers → length y ≡ n → bits_by numbers (bits_by names y) ≡ y
taken_back n names numbers y are wide =
    let long = length-map numbers (bit_at (bits_by names y)) in
    ext_get_or false (bits_by numbers (bits_by names y)) y (long ∙ are.counted ∙ sym wide) (λ v h.
    let back = bit-carried n names numbers are y v in
    grind (arith, nat_tests, get_or-map))

pub energy-carried : (names numbers : List ℕ) (m r : Written) (y : List Bool) → IsWellFormed m
    → AreNumbers m.nodes names numbers → IsRenumbered numbers m r → length y ≡ m.nodes
    → energy (form_of r) (bits_by names y) ≡ energy (form_of m) y
energy-carried names numbers m r y formed are same wide =
    let z = bits_by names y in
    (λ i. total_by (entry_energy (same.kind i) z) r.entries)
    ∙ total_by-IsPermutation (entry_energy m.kind z) (map (renumbered numbers) m.entries) r.entries
    same.entries ∙ total_by-map (entry_energy m.kind z) (renumbered numbers) m.entries
    ∙ entries-carried m.nodes names numbers are m.kind y m.entries
    (recursion_from_All _ _ formed.placed)

-- ---- least states

-- a least state is least by new numbers
pub least-carried : (names numbers : List ℕ) (m r : Written) (y : List Bool) → IsWellFormed m
    → AreNumbers m.nodes names numbers → IsRenumbered numbers m r → IsLeastState (form_of m) y
    → IsLeastState (form_of r) (bits_by names y)
least-carried names numbers m r y formed are same least = record {
  width = length-map names (bit_at y) ∙ are.count ∙ sym same.nodes;
  least = λ x wide.
      let back = bits_by numbers x in
      let again = taken_back m.nodes numbers names x (numbers-flip _ _ _ are) (wide ∙ same.nodes) in
      let fits : length back ≡ m.nodes = length-map numbers (bit_at x) ∙ are.counted in
      let here = energy-carried names numbers m r y formed are same least.width in
      let there = energy-carried names numbers m r back formed are same fits in
      let low = least.least back fits in
      omega (arith, ints, ap (energy (form_of r)) again);
}

-- the first least state by new numbers, taken back
pub first-taken_back : (names numbers : List ℕ) (m r : Written) (x : List Bool) → IsWellFormed m
    → AreNumbers m.nodes names numbers → IsRenumbered numbers m r → IsFirstLeast (form_of r) x
    → IsFirstLeastBy names (form_of m) (bits_by numbers x)
first-taken_back names numbers m r x formed are same found =
    let back = bits_by numbers x in
    let again : bits_by names back ≡ x =
    taken_back m.nodes numbers names x (numbers-flip _ _ _ are) (found.least.width ∙ same.nodes) in
    let fits : length back ≡ m.nodes = length-map numbers (bit_at x) ∙ are.counted in
    let there : energy (form_of r) x ≡ energy (form_of m) back =
    ap (energy (form_of r)) (sym again) ∙ energy-carried names numbers m r back formed are same fits in
    record {
      least = record {
        width = fits;
        least = λ y wide.
            let here = energy-carried names numbers m r y formed are same wide in
            let low = found.least.least (bits_by names y)
            (length-map names (bit_at y) ∙ are.count ∙ sym same.nodes) in
            omega (arith, ints);
      };
      first = λ y least greater. found.first (bits_by names y)
          (least-carried names numbers m r y formed are same least)
          (subst (λ z. slice_cmp bool_cmp z (bits_by names y) ≡ Greater) again greater);
    }
