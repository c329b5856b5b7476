-- What the shares and the ties of one node's chain cost. Nothing here has to be believed.
--
-- Where no tie is broken they cost what the field costs, less the strength of each tie. Where one is,
-- it costs twice its strength more, and the shares give back at most twice the field.
use Rattle.embedding_check.proofs.Common.{AllZip, nat_tests, length-drop, sum_by-cons, Entry, IsTie}
use Rattle.ising_form.proofs.Common.{AllByRecursion, ints, length-take-le, sum_by-append, total_by, total_by-append, times_spin, weight_total, size-times_spin}
use Rattle.std.specs.Prelude.{◌≡◌, ◌≢◌, ℕ, ◌+◌, ◌*◌, ◌<◌, ◌≤◌, ◌/◌, ℤ, pos, negsuc, neg_ℤ, ◌+ℤ◌, ◌*ℤ◌, ◌≤ℤ◌, unsigned_abs, Bool, true, false, cond, List, [], ◌∷◌, length, take, drop, sum_by}
use Rattle.std.specs.Int.{int_div_euclid, int_rem_euclid}
use Rattle.std.proofs.Common.{arith, ap, sym, ◌∙◌, refl, inl, inr, mod-lt, div-add-mod'}
use Rattle.std.proofs.lemmas.Bool.{and_parts, and_cases}
use Rattle.std.proofs.lemmas.List.Elements.{All-from_recursion, recursion_from_All, All-take, All-drop}
use Rattle.base.proofs.Products.{times-plus, plus-times}
use Rattle.chain_layer.specs.Image.{coupling_entry, field_entry, equal_shares, shares, ties}
use Rattle.chain_layer.specs.laws.SpinSums.{all_append, spin_energy, pair_energy, times_spin-plus, times_spin-comm, times_spin-zero, IsUpward}
use Rattle.chain_layer.specs.laws.Whole.{are_same, is_whole, HasBit, each_in}

-- ---- ties

-- a coupling of two qubits costs its weight times both spins, whichever qubit is the lesser one
pub coupling_energy : (s : ℕ → Bool) (q p : ℕ) (w : ℤ)
    → pair_energy s (coupling_entry q p w) ≡ times_spin (s q) (times_spin (s p) w)
coupling_energy s q p w = let turned = times_spin-comm (s p) (s q) w in grind (arith, nat_tests)

-- a coupling of two different qubits has the lesser one first
pub coupling_upward : (q p : ℕ) (w : ℤ) → (q ≢ p) → IsUpward (coupling_entry q p w)
coupling_upward q p w apart = grind (arith, nat_tests)

-- each tie of a qubit to its parent is of two different qubits, the lesser one first
pub ties_upward : (chain qs ps : List ℕ) (strong : ℕ → ℕ) → AllZip (IsTie chain) qs ps
    → AllByRecursion IsUpward (ties strong qs ps)
ties_upward chain [] ps strong h = tt
ties_upward chain (q ∷ qs) [] strong h = tt
ties_upward chain (q ∷ qs) (p ∷ ps) strong h =
    (coupling_upward q p _ h.0.apart, ties_upward chain qs ps strong h.1)

-- a tie of strength n costs -n where it holds and n where it is broken
tie_energy : (s : ℕ → Bool) (q p n : ℕ) → pair_energy s (coupling_entry q p (neg_ℤ (pos n)))
    ≡ cond (are_same (s q) (s p)) (neg_ℤ (pos n)) (pos n)
tie_energy s q p n = coupling_energy s q p (neg_ℤ (pos n)) ∙ grind (arith, ints)

-- where no tie is broken, each one lowers the energy by its strength
pub ties_whole : (s : ℕ → Bool) (qs ps : List ℕ) (strong : ℕ → ℕ) → length qs ≡ length ps
    → is_whole s qs ps ≡ true
    → total_by (pair_energy s) (ties strong qs ps) ≡ neg_ℤ (pos (sum_by strong qs))
ties_whole s [] ps strong same h = refl
ties_whole s (q ∷ qs) [] strong same h = absurd (omega (arith, same))
ties_whole s (q ∷ qs) (p ∷ ps) strong same h =
    let parts = and_parts (are_same (s q) (s p)) (is_whole s qs ps) h in
    let n = strong q in
    let tie = tie_energy s q p n ∙ ap (λ t. cond t (neg_ℤ (pos n)) (pos n)) parts.0 in
    let rest = ties_whole s qs ps strong (omega (arith, same)) parts.1 in
    omega (arith, ints, tie, sum_by-cons strong q qs, rest)

-- whatever the spins are, a tie lowers the energy at most by its strength
tie_low : (s : ℕ → Bool) (q p n : ℕ)
    → neg_ℤ (pos n) ≤ℤ pair_energy s (coupling_entry q p (neg_ℤ (pos n)))
tie_low s q p n = let cost = tie_energy s q p n in grind (arith, ints)

-- and ties of one strength by their strengths
ties_low : (s : ℕ → Bool) (qs ps : List ℕ) (n : ℕ) → length qs ≡ length ps
    → neg_ℤ (pos (sum_by (λ _. n) qs)) ≤ℤ total_by (pair_energy s) (ties (λ _. n) qs ps)
ties_low s [] ps n same = omega (arith, ints)
ties_low s (q ∷ qs) [] n same = absurd (omega (arith, same))
ties_low s (q ∷ qs) (p ∷ ps) n same =
    let rest = ties_low s qs ps n (omega (arith, same)) in
    omega (arith, ints, tie_low s q p n, sum_by-cons (λ _. n) q qs, rest)

-- one of them is broken: then they cost at least twice the strength more than where none is
pub ties_broken : (s : ℕ → Bool) (qs ps : List ℕ) (n : ℕ) → length qs ≡ length ps
    → is_whole s qs ps ≡ false
    → (neg_ℤ (pos (sum_by (λ _. n) qs)) +ℤ pos (2 * n)) ≤ℤ total_by (pair_energy s) (ties (λ _. n) qs ps)
ties_broken s [] ps n same h = absurd (cc)
ties_broken s (q ∷ qs) [] n same h = absurd (omega (arith, same))
ties_broken s (q ∷ qs) (p ∷ ps) n same h =
    let sums = sum_by-cons (λ _. n) q qs in
    elim (and_cases (are_same (s q) (s p)) (is_whole s qs ps) h) [
      | inl here ↦
          let tie = tie_energy s q p n ∙ ap (λ t. cond t (neg_ℤ (pos n)) (pos n)) here in
          omega (arith, ints, tie, sums, ties_low s qs ps n (omega (arith, same)))
      | inr later ↦
          let rest = ties_broken s qs ps n (omega (arith, same)) later in
          omega (arith, ints, tie_low s q p n, sums, rest)
    ]

-- ---- shares

-- what is true of each qubit is true of the qubit of each share
equal_of : (P : ℕ → Type 0) (qs : List ℕ) (share : ℤ) → AllByRecursion P qs
    → AllByRecursion (λ e. P e.first) (equal_shares qs share)
equal_of P [] share h = tt
equal_of P (q ∷ qs) share h = (h.0, equal_of P qs share h.1)

-- what is true of each qubit of a chain is true of the qubit of each share
pub shares_of : (P : ℕ → Type 0) (chain : List ℕ) (h : ℤ) → AllByRecursion P chain
    → AllByRecursion (λ e. P e.first) (shares chain h)
shares_of P chain h all =
    let each = All-from_recursion P chain all in
    let rest = unsigned_abs (int_rem_euclid h (pos (length chain))) in
    all_append (λ e. P e.first) (equal_shares (take rest chain) _) (equal_shares (drop rest chain) _)
    (equal_of P (take rest chain) _ (recursion_from_All P _ (All-take P rest chain each)))
    (equal_of P (drop rest chain) _ (recursion_from_All P _ (All-drop P rest chain each)))

-- equal shares add up to the share times the number of qubits
equal_total : (qs : List ℕ) (share : ℤ)
    → total_by (λ e. e.weight) (equal_shares qs share) ≡ share *ℤ pos (length qs)
equal_total [] share = omega (arith, ints)
equal_total (q ∷ qs) share =
    omega (arith, ints, equal_total qs share, times-plus share (pos 1) (pos (length qs)))

-- the quotient and the rest of a field: the rest is from 0 to n - 1, also for a negative field, and
-- quotient times n plus rest is the field
pub split_of : (h : ℤ) (n : ℕ) → 0 < n → (unsigned_abs (int_rem_euclid h (pos n)) < n)
    × (int_div_euclid h (pos n) *ℤ pos n +ℤ pos (unsigned_abs (int_rem_euclid h (pos n))) ≡ h)
split_of (pos a) n some = (mod-lt a some, omega (arith, ints, div-add-mod' a n))
split_of (negsuc a) n some = (omega (arith, mod-lt a some), omega (arith, ints, mod-lt a some, div-add-mod' a n))

-- shares of one spin cost what their sum costs at this spin
one_spin : (s : ℕ → Bool) (b : Bool) (es : List Entry) → AllByRecursion (λ e. s e.first ≡ b) es
    → total_by (spin_energy s) es ≡ times_spin b (total_by (λ e. e.weight) es)
one_spin s b [] h = sym (times_spin-zero b)
one_spin s b (e ∷ es) h =
    let split = times_spin-plus b e.weight (total_by (λ e. e.weight) es) in
    omega (arith, ints, ap (λ t. times_spin t e.weight) h.0, one_spin s b es h.1, split)

-- a chain that is not empty has a qubit or more
pub filled_length : (chain : List ℕ) → (chain ≢ []) → 0 < length chain
filled_length [] h = absurd (h refl)
filled_length (q ∷ qs) h = omega arith

-- where a chain is cut into a front of `rest` qubits and the others, the lengths add up
cut : (chain : List ℕ) (rest : ℕ) → rest ≤ length chain
    → (length (take rest chain) ≡ rest) × (length (drop rest chain) + rest ≡ length chain)
cut chain rest h = (length-take-le rest chain h, omega (arith, length-drop rest chain))

-- so the shares of a field add up to it
shares_total : (chain : List ℕ) (h : ℤ) → (chain ≢ []) → total_by (λ e. e.weight) (shares chain h) ≡ h
shares_total chain h filled =
    let n = length chain in
    let share = int_div_euclid h (pos n) in
    let rest = unsigned_abs (int_rem_euclid h (pos n)) in
    let split = split_of h n (filled_length chain filled) in
    let parts = cut chain rest (omega (arith, split.0)) in
    let front = length (take rest chain) in
    let back = length (drop rest chain) in
    let whole : front + back ≡ n = omega (arith, parts.0, parts.1) in
    let joined =
    total_by-append (λ (e : Entry). e.weight) (equal_shares (take rest chain) (share +ℤ pos 1)) (equal_shares (drop rest chain) share) in
    let shares_are = equal_total (take rest chain) (share +ℤ pos 1) in
    let back_total = equal_total (drop rest chain) share in
    let front_split = plus-times (pos front) share (pos 1) in
    let both_split = times-plus share (pos front) (pos back) in
    let same = ap (λ m. share *ℤ pos m) whole in
    omega (arith, ints, joined, shares_are, back_total, front_split, both_split, same, parts.0, split.1)

-- on a chain of one bit the shares cost what the field costs at that bit
pub shares_whole : (s : ℕ → Bool) (chain : List ℕ) (h : ℤ) (b : Bool) → (chain ≢ [])
    → HasBit s chain b → total_by (spin_energy s) (shares chain h) ≡ times_spin b h
shares_whole s chain h b filled has =
    one_spin s b (shares chain h) (shares_of (λ q. s q ≡ b) chain h (each_in _ chain has))
    ∙ ap (times_spin b) (shares_total chain h filled)

-- the sizes of equal shares sum up to the size of one, times the number of qubits
pub weights_of_equal : (qubits : List ℕ) (share : ℤ)
    → weight_total (equal_shares qubits share) ≡ length qubits * unsigned_abs share
weights_of_equal [] share = omega arith
weights_of_equal (q ∷ qs) share =
    let sizes_are =
    sum_by-cons (λ (e : Entry). unsigned_abs e.weight) (field_entry q share) (equal_shares qs share) in
    omega (arith, sizes_are, weights_of_equal qs share)

-- The shares of a field have one sign, so together they have its size. So splitting a field makes
-- no weight of the model larger than it was.
pub shares_size : (chain : List ℕ) (h : ℤ) → (chain ≢ []) → weight_total (shares chain h) ≡ unsigned_abs h
shares_size chain h filled =
    let n = length chain in
    let rest = unsigned_abs (int_rem_euclid h (pos n)) in
    let share = int_div_euclid h (pos n) in
    let parts = cut chain rest (omega (arith, (split_of h n (filled_length chain filled)).0)) in
    sum_by-append (λ (e : Entry). unsigned_abs e.weight) (equal_shares (take rest chain) (share +ℤ pos 1)) (equal_shares (drop rest chain) share)
    ∙ (λ k. weights_of_equal (take rest chain) (share +ℤ pos 1) k + weights_of_equal (drop rest chain) share k)
    ∙ sizes h n (length (take rest chain)) (length (drop rest chain)) (filled_length chain filled) parts.0 parts.1
  where
    sizes : (h : ℤ) (n f b : ℕ) → 0 < n → f ≡ unsigned_abs (int_rem_euclid h (pos n))
        → b + unsigned_abs (int_rem_euclid h (pos n)) ≡ n
        → f * unsigned_abs (int_div_euclid h (pos n) +ℤ pos 1) + b * unsigned_abs (int_div_euclid h (pos n)) ≡ unsigned_abs h
    sizes (pos a) n f b some front back =
        let all : a / n * n ≡ a / n * (b + f) = ap (λ m. a / n * m) (sym (omega (arith, front, back))) in
        omega (arith, all, front, div-add-mod' a n)
    sizes (negsuc a) n f b some front back =
        let less = mod-lt a some in
        let all : a / n * n ≡ a / n * (b + f) = ap (λ m. a / n * m) (sym (omega (arith, front, back))) in
        let one : unsigned_abs (negsuc (a / n) +ℤ pos 1) ≡ a / n = omega (arith, ints) in
        omega (arith, ap (λ u. f * u) one, all, front, back, less, div-add-mod' a n)

-- whatever the spins are, fields cost at least minus the sum of their sizes
pub spins_low : (s : ℕ → Bool) (es : List Entry)
    → neg_ℤ (pos (weight_total es)) ≤ℤ total_by (spin_energy s) es
spins_low s [] = omega (arith, ints)
spins_low s (e ∷ es) =
    let sizes_are = sum_by-cons (λ (e : Entry). unsigned_abs e.weight) e es in
    omega (arith, ints, sizes_are, size-times_spin (s e.first) e.weight, spins_low s es)
