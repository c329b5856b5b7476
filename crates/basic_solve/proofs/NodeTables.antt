-- The table of a node, and what it makes of the least energies that are left.
use Rattle.basic_solve.proofs.Common.{nat_tests, ◌≡◌, ℕ, ◌+◌, ◌*◌, ◌^◌, ◌<◌, ℤ, ◌+ℤ◌, int_lt, Bool, true, false, cond, List, [], ◌∷◌, ◌++◌, length, get_or, refl, arith, int_min, ints, total_by, Entry, Kind, entry_energy, index_of, value_at, doubled, sum_where, places, base_of, step_at, AreOf, TableOver, own_energy, IsPassedTo, IsSettled}
use Rattle.basic_solve.proofs.TableValues.{doubled_at, stepped-sum, stepped-places, length-places, index_of-lt, index_of-last, index_of-front, bit_at-next}
use Rattle.basic_solve.proofs.Parts.{entries_parts}

-- ---- the entries of a node

-- a table that is doubled by steps holds a base and the steps of those nodes whose bit is 1
doubled_value : (y : List Bool) (nodes : List ℕ) (b : ℤ) (steps : List ℤ)
    → length steps ≡ length nodes
    → value_at nodes (doubled ◌+ℤ◌ (b ∷ []) steps) y ≡ b +ℤ sum_where y nodes steps
doubled_value y nodes b steps l =
    let at : 0 + 1 * index_of y nodes ≡ index_of y nodes = omega arith in
    grind (arith, nat_tests, ints, doubled_at, stepped-sum)

-- so it holds what the entries of a node add
pub entries_value : (kind : Kind) (y : List Bool) (bit : Bool) (nodes : List ℕ) (b : ℤ)
    (steps : List ℤ)
    (es : List Entry) → AreOf (length y) es → length steps ≡ length nodes
    → b ≡ total_by (base_of kind bit) es
    → sum_where y nodes steps ≡ total_by (step_at kind bit y) es
    → value_at nodes (doubled ◌+ℤ◌ (b ∷ []) steps) y
    ≡ total_by (entry_energy kind (y ++ bit ∷ [])) es
entries_value kind y bit nodes b steps es own l base sums =
    grind (arith, nat_tests, ints, doubled_value, entries_parts)

-- ---- a table that is passed to a node

-- the place of a state in it
pub passed_place : (y : List Bool) (bit : Bool) (v : ℕ) (nodes : List ℕ) (t : TableOver)
    (p : IsPassedTo v nodes t) (start : ℕ) → length y ≡ v → start ≡ cond bit (2 ^ length p.rest) 0
    → start + get_or (doubled ◌+◌ (0 ∷ []) (places 1 nodes p.rest)) (index_of y nodes) 0
    ≡ index_of (y ++ bit ∷ []) t.nodes
passed_place y bit v nodes t p start w s =
    let all = doubled_at ◌+◌ y nodes (0 ∷ []) (places 1 nodes p.rest) 0 0 1 refl (omega arith) in
    let steps = stepped-places y 0 1 nodes p.rest p.among in
    let front = index_of-front y (bit ∷ []) p.rest (rw w p.below) in
    let whole = p.parts in
    grind (arith, nat_tests, length-places 1 nodes p.rest, bit_at-next y [] bit, index_of-last (y ++ bit ∷ []) p.rest v)

-- ---- both tables of a node

module _ {kind : Kind} {v : ℕ} {nodes : List ℕ} {own : List Entry} {passed : List TableOver}
    {values : List ℤ} {bits : List Bool} (s : IsSettled kind v nodes own passed values bits) where
  within : (y : List Bool) → index_of y nodes < length s.zeros
  within y = omega (arith, s.zero.count, index_of-lt y nodes)

  -- the bits say for which bit the node adds less
  pub bit_is : (y : List Bool) → length y ≡ v → get_or bits (index_of y nodes) false
      ≡ int_lt (own_energy kind own passed y true) (own_energy kind own passed y false)
  bit_is y w = cc (s.bit (index_of y nodes) (within y), s.zero.holds y w, s.one.holds y w)

  -- the lesser numbers are what the node adds
  pub lesser_holds : (y : List Bool) → length y ≡ v → value_at nodes values y
      ≡ int_min (own_energy kind own passed y false) (own_energy kind own passed y true)
  lesser_holds y w = cc (s.lesser (index_of y nodes) (within y), s.zero.holds y w, s.one.holds y w)
