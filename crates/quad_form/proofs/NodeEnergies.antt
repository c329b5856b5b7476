-- The energy of nodes that are numbered one after another.
use Rattle.quad_form.proofs.Common.{nat_tests, ◌≡◌, ℕ, zero, suc, ◌+◌, ◌<◌, ◌≤◌, Bool, ◌&&◌, ℤ, ◌+ℤ◌, unsigned_abs, List, [], ◌∷◌, length, take, get_or, ap, ◌∙◌, arith, ints, sum_by_push, sum_by-cons, total_by, if_so, total_by_push, size-plus, Entry, bit_at, bits_energy, weight_total, size-if_so, node_entries}
use Rattle.quad_form.proofs.NodeEntries.{node_entries_more}

abbrev size : Entry → ℕ
size e = unsigned_abs e.weight

pub weights_more : (ws : List ℤ) (i : ℕ) (d : ℤ) → i < length ws
    → weight_total (node_entries 0 (take (i + 1) ws))
    ≡ weight_total (node_entries 0 (take i ws)) + unsigned_abs (get_or ws i d)
weights_more ws i d h =
    ap weight_total (node_entries_more ws i d h) ∙ sum_by_push size (node_entries 0 (take i ws))
    (record { first = i; second = i; weight = get_or ws i d })

-- the weights of some nodes are within those of all
weights_from : (n i : ℕ) (ws : List ℤ)
    → weight_total (node_entries n (take i ws)) ≤ weight_total (node_entries n ws)
weights_from n zero ws = omega arith
weights_from n (suc i) [] = omega arith
weights_from n (suc i) (w ∷ ws) =
    let entry : Entry = record { first = n; second = n; weight = w } in
    omega (arith, weights_from (suc n) i ws, sum_by-cons)

pub weights_within : (ws : List ℤ) (i : ℕ) (d : ℤ) → i < length ws
    → weight_total (node_entries 0 (take i ws)) + unsigned_abs (get_or ws i d)
    ≤ weight_total (node_entries 0 ws)
weights_within ws i d h = omega (arith, weights_more ws i d h, weights_from 0 (i + 1) ws)

one_bit : (b : Bool) (w : ℤ) → if_so (b && b) w ≡ if_so b w
one_bit b w = grind (arith, nat_tests, ints)

energy_of_node : (y : List Bool) (ws : List ℤ) (i : ℕ) (d : ℤ) → i < length ws
    → total_by (bits_energy y) (node_entries 0 (take (i + 1) ws))
    ≡ total_by (bits_energy y) (node_entries 0 (take i ws)) +ℤ if_so (bit_at y i) (get_or ws i d)
energy_of_node y ws i d h =
    ap (total_by (bits_energy y)) (node_entries_more ws i d h)
    ∙ total_by_push (bits_energy y) (node_entries 0 (take i ws))
    (record { first = i; second = i; weight = get_or ws i d })
    ∙ ap (λ z. total_by (bits_energy y) (node_entries 0 (take i ws)) +ℤ z)
    (one_bit (bit_at y i) (get_or ws i d))

-- the energy with one more node
pub energy_more : (y : List Bool) (ws : List ℤ) (i : ℕ) (d so_far : ℤ) → i < length ws
    → so_far ≡ total_by (bits_energy y) (node_entries 0 (take i ws))
    → so_far +ℤ if_so (bit_at y i) (get_or ws i d)
    ≡ total_by (bits_energy y) (node_entries 0 (take (i + 1) ws))
energy_more y ws i d so_far h same = omega (arith, ints, same, energy_of_node y ws i d h)

-- its size is within the weights
pub size_more : (y : List Bool) (ws : List ℤ) (i : ℕ) (d so_far : ℤ) → i < length ws
    → unsigned_abs so_far ≤ weight_total (node_entries 0 (take i ws))
    → unsigned_abs (so_far +ℤ if_so (bit_at y i) (get_or ws i d))
    ≤ weight_total (node_entries 0 (take (i + 1) ws))
size_more y ws i d so_far h small = omega (arith, small, size-plus, size-if_so, weights_more)
