-- The energy of bits, row by row.
use Rattle.bits_model.proofs.Common.{nat_tests, ◌≡◌, ℕ, suc, ◌+◌, ◌≤◌, ◌<◌, ℤ, pos, ◌+ℤ◌, unsigned_abs, Bool, true, false, ◌&&◌, List, [], ◌∷◌, ◌++◌, All, length, get_or, take, drop, ap, sym, refl, ◌∙◌, arith, flat_map, ints, take-append-drop, sum_by_more, flat_map-append, if_so, total_by, total_by-append, total_by_more, Entry, rows_of, bit_at, bits_energy, weight_total}
use Rattle.bits_model.proofs.EntryRows.{joined_rows, rows_before, rows_more, rows_all}
use Rattle.bits_model.proofs.Energies.{weights-append}

-- ---- one row

-- the weight of an entry whose second node has bit 1
abbrev pub second_weight : List Bool → Entry → ℤ
second_weight y e = if_so (bit_at y e.second) e.weight

-- where the first node has bit 1, the second one alone decides
pub row_of_one : (y : List Bool) (f : ℕ) (row : List Entry) → All (λ e. e.first ≡ f) row
    → bit_at y f ≡ true → total_by (bits_energy y) row ≡ total_by (second_weight y) row
row_of_one y f [] firsts one = refl
row_of_one y f (e ∷ row) firsts one =
    let here : bit_at y e.first ≡ true = ap (bit_at y) (firsts 0 e (omega arith)) ∙ one in
    let rest = row_of_one y f row (λ i d low. firsts (suc i) d (omega (arith, low))) one in
    λ i. if_so (here i && bit_at y e.second) e.weight +ℤ rest i

-- where it has bit 0, the row adds nothing
pub row_of_zero : (y : List Bool) (f : ℕ) (row : List Entry) → All (λ e. e.first ≡ f) row
    → bit_at y f ≡ false → total_by (bits_energy y) row ≡ pos 0
row_of_zero y f [] firsts zero = refl
row_of_zero y f (e ∷ row) firsts zero =
    let here : bit_at y e.first ≡ false = ap (bit_at y) (firsts 0 e (omega arith)) ∙ zero in
    let rest = row_of_zero y f row (λ i d low. firsts (suc i) d (omega (arith, low))) zero in
    λ i. if_so (here i && bit_at y e.second) e.weight +ℤ rest i

-- one entry more, whose second node has bit 1
pub sum_more : (y : List Bool) (row : List Entry) (i s : ℕ) (d : Entry) → i < length row
    → (get_or row i d).second ≡ s → bit_at y s ≡ true
    → total_by (second_weight y) (take (i + 1) row)
    ≡ total_by (second_weight y) (take i row) +ℤ (get_or row i d).weight
sum_more y row i s d below second one =
    grind (arith, nat_tests, ints, total_by_more (second_weight y) row i d below)

-- or bit 0
pub sum_same : (y : List Bool) (row : List Entry) (i s : ℕ) (d : Entry) → i < length row
    → (get_or row i d).second ≡ s → bit_at y s ≡ false
    → total_by (second_weight y) (take (i + 1) row) ≡ total_by (second_weight y) (take i row)
sum_same y row i s d below second zero =
    grind (arith, nat_tests, total_by_more (second_weight y) row i d below)

pub weight_more : (row : List Entry) (i : ℕ) (d : Entry) → i < length row
    → weight_total (take (i + 1) row)
    ≡ weight_total (take i row) + unsigned_abs (get_or row i d).weight
weight_more row i d below = sum_by_more (λ (e : Entry). unsigned_abs e.weight) row i d below

-- ---- rows one after another

-- the rows before one weigh no more than all
pub weight_before : (es : List Entry) (k : ℕ) → weight_total (rows_before es k) ≤ weight_total es
weight_before es k =
    let rows = rows_of es in
    let after = flat_map (λ (row : List Entry). row) (drop k rows) in
    let whole : rows_before es k ++ after ≡ es =
    sym (flat_map-append (λ (row : List Entry). row) (take k rows) (drop k rows))
    ∙ ap (flat_map (λ (row : List Entry). row)) (take-append-drop k rows) ∙ joined_rows es in
    omega (arith, sym (weights-append (rows_before es k) after) ∙ ap weight_total whole)

-- one row more
pub weight_of_row : (es row : List Entry) (k : ℕ) → k < length (rows_of es)
    → row ≡ get_or (rows_of es) k []
    → weight_total (rows_before es (k + 1)) ≡ weight_total (rows_before es k) + weight_total row
weight_of_row es row k below is = grind (arith, nat_tests, rows_more, weights-append, rows_before)

pub energy_of_row : (y : List Bool) (es row : List Entry) (k : ℕ) → k < length (rows_of es)
    → row ≡ get_or (rows_of es) k [] → total_by (bits_energy y) (rows_before es (k + 1))
    ≡ total_by (bits_energy y) (rows_before es k) +ℤ total_by (bits_energy y) row
energy_of_row y es row k below is =
    grind (arith, nat_tests, ints, rows_more, total_by-append, rows_before)

pub energy_of_all : (y : List Bool) (es : List Entry) (k : ℕ) → length (rows_of es) ≡ k
    → total_by (bits_energy y) (rows_before es k) ≡ total_by (bits_energy y) es
energy_of_all y es k all = ap (total_by (bits_energy y)) (rows_all es k all)
