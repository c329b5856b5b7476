-- The energy of a state, entry by entry.
use Rattle.bits_model.proofs.Common.{◌^◌, of_z, to_z, w128, nat_tests, ◌≡◌, ℕ, ◌+◌, ◌≤◌, ℤ, ◌+ℤ◌, unsigned_abs, Bool, true, false, List, [], ◌∷◌, ◌++◌, ap, ◌∙◌, ◌<◌, length, take, get_or, arith, ints, sum_by-cons, sum_by_more_le, sum_by-append, if_so, total_by, size-plus, Entry, Kind, times_spin, entry_energy, weight_total}

pub size-if_so : (b : Bool) (w : ℤ) → unsigned_abs (if_so b w) ≤ unsigned_abs w
size-if_so true w = omega arith
size-if_so false w = omega arith

pub size-times_spin : (b : Bool) (w : ℤ) → unsigned_abs (times_spin b w) ≤ unsigned_abs w
size-times_spin true w = omega arith
size-times_spin false w = omega (arith, ints)

-- an entry adds at most its weight, in size
pub size-entry_energy : (kind : Kind) (y : List Bool) (e : Entry)
    → unsigned_abs (entry_energy kind y e) ≤ unsigned_abs e.weight
size-entry_energy kind y e = grind (arith, nat_tests)

-- entries add at most their weights, in size
pub size-energy : (kind : Kind) (y : List Bool) (es : List Entry)
    → unsigned_abs (total_by (entry_energy kind y) es) ≤ weight_total es
size-energy kind y [] = omega arith
size-energy kind y (e ∷ es) =
    omega (arith, size-plus, size-entry_energy, size-energy kind y es, sum_by-cons)

-- ---- entries that are left, of which one is taken

pub energy_left : (kind : Kind) (y : List Bool) (es rest : List Entry) (e : Entry) → es ≡ e ∷ rest
    → total_by (entry_energy kind y) es ≡ entry_energy kind y e +ℤ total_by (entry_energy kind y) rest
energy_left kind y es rest e left = ap (total_by (entry_energy kind y)) left

pub weight_left : (es rest : List Entry) (e : Entry) → es ≡ e ∷ rest
    → weight_total es ≡ unsigned_abs e.weight + weight_total rest
weight_left es rest e left =
    ap weight_total left ∙ sum_by-cons (λ (d : Entry). unsigned_abs d.weight) e rest

-- the energy so far is small with one entry more
pub size_left : (kind : Kind) (y : List Bool) (es rest : List Entry) (e : Entry) (so_far : ℤ) (n : ℕ)
    → es ≡ e ∷ rest → unsigned_abs so_far + weight_total es ≤ n
    → unsigned_abs (so_far +ℤ entry_energy kind y e) + weight_total rest ≤ n
size_left kind y es rest e so_far n left small =
    omega (arith, small, weight_left, size-plus, size-entry_energy)

-- a loop's next energy, as bits, where the energy so far and that of what is left make up the whole
pub energy_step : (kind : Kind) (y : List Bool) (es rest : List Entry) (e : Entry) (so_far added whole : ℤ)
    → es ≡ e ∷ rest → added ≡ entry_energy kind y e
    → so_far +ℤ total_by (entry_energy kind y) es ≡ whole → unsigned_abs so_far + weight_total es ≤ 2 ^ 124
    → (to_z w128 (of_z w128 (so_far +ℤ to_z w128 (of_z w128 added))) +ℤ total_by (entry_energy kind y) rest ≡ whole)
    × (unsigned_abs (to_z w128 (of_z w128 (so_far +ℤ to_z w128 (of_z w128 added)))) + weight_total rest ≤ 2 ^ 124)
energy_step kind y es rest e so_far added whole left is sums few =
    let small = size_left kind y es rest e so_far (2 ^ 124) left few in
    let size = size-entry_energy kind y e in
    let within = weight_left es rest e left in
    let value : to_z w128 (of_z w128 (so_far +ℤ to_z w128 (of_z w128 added))) ≡ so_far +ℤ entry_energy kind y e =
    omega (arith, ints) in
    rw value (omega (arith, ints, energy_left kind y es rest e left), small)

-- a weight, and those before it, are within all
pub weight_within : (es : List Entry) (i : ℕ) (d : Entry) → i < length es
    → weight_total (take i es) + unsigned_abs (get_or es i d).weight ≤ weight_total es
weight_within es i d h = sum_by_more_le (λ (e : Entry). unsigned_abs e.weight) es i d h

pub weights-append : (es cs : List Entry) → weight_total (es ++ cs) ≡ weight_total es + weight_total cs
weights-append es cs = sum_by-append (λ (e : Entry). unsigned_abs e.weight) es cs
