-- Entries whose weights are counted in a unit that divides them.
use Rattle.quad_form.proofs.Common.{nat_tests, ◌≡◌, ◌≢◌, inl, inr, ℕ, suc, ◌+◌, ◌*◌, ◌<◌, ◌≤◌, ℤ, pos, ◌+ℤ◌, ◌*ℤ◌, unsigned_abs, List, [], ◌∷◌, ◌++◌, All, map, refl, sym, ap, ◌∙◌, subst, arith, ◌∣◌, AllByRecursion, sum_by, IsStrictlySortedBy, mul-le-mul_left, dvd-mul_right, mul-dvd-mul_left, ints, unsigned_abs-mul, map-append, sum_by-cons, sum_by-append, recursion_from_All, All-from_recursion, total_by, times-plus, Entry, IsMultiple, entry_cmp, weight_total, node_entries, IsCoupler, greatest_within, IsCommonDivisor, weight_of, weights_of, counted_in, entry_in, Less}
use Rattle.quad_form.proofs.Divisors.{Divides, greatest_divides, one_le_greatest, greatest_above, none_or_within, unit_of_nothing, divisor_of_both, divisor_within, exact, size-exact}

-- d divides the size of each entry's weight
abbrev pub DividesEach : ℕ → List Entry → Type 0
DividesEach d es = AllByRecursion (λ e. d ∣ unsigned_abs e.weight) es

pub each_from_weights : (d : ℕ) (es : List Entry) → Divides d (map weight_of es) → DividesEach d es
each_from_weights d [] h = tt
each_from_weights d (e ∷ es) h = (h.0, each_from_weights d es h.1)

pub each_of_rest : (d : ℕ) (es cs : List Entry) → DividesEach d (es ++ cs) → DividesEach d cs
each_of_rest d [] cs h = h
each_of_rest d (e ∷ es) cs h = each_of_rest d es cs h.1

-- ---- of nodes and couplers

pub weights-nodes : (n : ℕ) (ws : List ℤ) → map weight_of (node_entries n ws) ≡ ws
weights-nodes n [] = refl
weights-nodes n (w ∷ ws) = ap (λ vs. w ∷ vs) (weights-nodes (suc n) ws)

pub weights-entries : (ws : List ℤ) (cs : List Entry)
    → map weight_of (node_entries 0 ws ++ cs) ≡ weights_of ws cs
weights-entries ws cs = grind (arith, nat_tests, ints, map-append, weights-nodes)

sizes-entries : (es : List Entry) → sum_by unsigned_abs (map weight_of es) ≡ weight_total es
sizes-entries [] = refl
sizes-entries (e ∷ es) = omega (arith, sizes-entries es, sum_by-cons)

-- the sizes of all weights
pub sizes_of_weights : (ws : List ℤ) (cs : List Entry)
    → sum_by unsigned_abs (weights_of ws cs) ≡ weight_total (node_entries 0 ws) + weight_total cs
sizes_of_weights ws cs =
    ap (sum_by unsigned_abs) (sym (weights-entries ws cs)) ∙ sizes-entries (node_entries 0 ws ++ cs)
    ∙ sum_by-append (λ (e : Entry). unsigned_abs e.weight) (node_entries 0 ws) cs

-- the divisor of all weights
pub divisor_of_weights : (ws : List ℤ) (cs : List Entry) (d e : ℕ) → IsCommonDivisor 0 ws d
    → IsCommonDivisor d (map weight_of cs) e → IsCommonDivisor 0 (weights_of ws cs) e
divisor_of_weights ws cs d e p q = divisor_of_both ws (map weight_of cs) d e p q

pub divisor_low : (ws : List ℤ) (cs : List Entry) (e high : ℕ)
    → IsCommonDivisor 0 (weights_of ws cs) e
    → weight_total (node_entries 0 ws) + weight_total cs ≤ high → e ≤ high
divisor_low ws cs e high c small =
    omega (arith, divisor_within (weights_of ws cs) e c, sizes_of_weights ws cs)

nodes-in : (unit : ℤ) (n : ℕ) (ws : List ℤ)
    → node_entries n (map (counted_in unit) ws) ≡ map (entry_in unit) (node_entries n ws)
nodes-in unit n [] = refl
nodes-in unit n (w ∷ ws) = grind (arith, nat_tests, ints, nodes-in unit (suc n) ws)

-- the entries of weights that are counted in a unit
pub entries-in : (unit : ℤ) (ws : List ℤ) (cs : List Entry)
    → node_entries 0 (map (counted_in unit) ws) ++ map (entry_in unit) cs
    ≡ map (entry_in unit) (node_entries 0 ws ++ cs)
entries-in unit ws cs = grind (arith, nat_tests, ints, nodes-in, map-append)

-- ---- sums

-- the sizes are divided by the unit
pub total-in : (u : ℕ) (es : List Entry) → DividesEach u es
    → u * weight_total (map (entry_in (pos u)) es) ≡ weight_total es
total-in u [] h = omega arith
total-in u (e ∷ es) h =
    simp sum_by-cons (omega (arith, size-exact u e.weight h.0, total-in u es h.1))

-- an energy of entries is divided by the unit, where it is of each entry
pub energy-in : (f : Entry → ℤ) (u : ℕ) (es : List Entry) → DividesEach u es
    → ((e : Entry) → u ∣ unsigned_abs e.weight → pos u *ℤ f (entry_in (pos u) e) ≡ f e)
    → pos u *ℤ total_by f (map (entry_in (pos u)) es) ≡ total_by f es
energy-in f u [] h of_each = omega (arith, ints)
energy-in f u (e ∷ es) h of_each =
    times-plus (pos u) (f (entry_in (pos u) e)) (total_by f (map (entry_in (pos u)) es))
    ∙ (λ i. of_each e h.0 i +ℤ energy-in f u es h.1 of_each i)

-- ---- couplers

before-in : (unit : ℤ) (e : Entry) (es : List Entry) → AllByRecursion (λ f. entry_cmp e f ≡ Less) es
    → AllByRecursion (λ f. entry_cmp (entry_in unit e) f ≡ Less) (map (entry_in unit) es)
before-in unit e [] h = tt
before-in unit e (f ∷ fs) h = (h.0, before-in unit e fs h.1)

pub ordered-in : (unit : ℤ) (es : List Entry) → IsStrictlySortedBy entry_cmp es
    → IsStrictlySortedBy entry_cmp (map (entry_in unit) es)
unfolding IsStrictlySortedBy
ordered-in unit [] h = tt
ordered-in unit (e ∷ es) h = (before-in unit e es h.0, ordered-in unit es h.1)

nonzero-in : (u : ℕ) (w : ℤ) → u ∣ unsigned_abs w → w ≢ pos 0 → counted_in (pos u) w ≢ pos 0
nonzero-in u w h some none = grind (arith, nat_tests, ints, exact)

couplers-by-recursion : (u n : ℕ) (es : List Entry) → DividesEach u es
    → AllByRecursion (IsCoupler n) es → AllByRecursion (IsCoupler n) (map (entry_in (pos u)) es)
couplers-by-recursion u n [] h all = tt
couplers-by-recursion u n (e ∷ es) h all =
    grind (arith, nat_tests, couplers-by-recursion u n es h.1 all.1, nonzero-in)

pub couplers-in : (u n : ℕ) (es : List Entry) → DividesEach u es → All (IsCoupler n) es
    → All (IsCoupler n) (map (entry_in (pos u)) es)
couplers-in u n es h all =
    All-from_recursion _ _ (couplers-by-recursion u n es h (recursion_from_All _ es all))

-- ---- the unit is the greatest

abbrev pub IsZero : Entry → Type 0
IsZero e = e.weight ≡ pos 0

-- the unit of these entries, as a natural number
abbrev pub unit_in : List Entry → ℕ
unit_in es = greatest_within (sum_by unsigned_abs (map weight_of es)) (map weight_of es)

pub unit_divides : (es : List Entry) → DividesEach (unit_in es) es
unit_divides es = grind (arith, nat_tests, each_from_weights, greatest_divides)

pub one_le_unit : (es : List Entry) → 1 ≤ unit_in es
one_le_unit es = one_le_greatest (sum_by unsigned_abs (map weight_of es)) (map weight_of es)

-- a multiple, as a fact of sizes
size-multiple : (d : ℕ) (z : ℤ) → IsMultiple d z → d ∣ unsigned_abs z
size-multiple d z h =
    let same : d * unsigned_abs h.0 ≡ unsigned_abs z = sym (ap unsigned_abs h.1 ∙ unsigned_abs-mul (pos d) h.0) in
    subst (λ n. d ∣ n) same (dvd-mul_right d (unsigned_abs h.0))

-- what divides the quotients divides the weights, times the unit
product_divides : (u d : ℕ) (es : List Entry) → DividesEach u es
    → AllByRecursion (λ e. IsMultiple d e.weight) (map (entry_in (pos u)) es)
    → Divides (u * d) (map weight_of es)
product_divides u d [] h all = tt
product_divides u d (e ∷ es) h all =
    let this = mul-dvd-mul_left d u (size-multiple d (counted_in (pos u) e.weight) all.0) in (
      subst (λ n. u * d ∣ n) (size-exact u e.weight h.0) this,
      product_divides u d es h.1 all.1,
    )

zero_if_none : (u : ℕ) (es : List Entry) → DividesEach u es → 1 ≤ u
    → sum_by unsigned_abs (map weight_of es) ≡ 0 → AllByRecursion IsZero (map (entry_in (pos u)) es)
zero_if_none u [] h one none = tt
zero_if_none u (e ∷ es) h one none =
    let sum = sum_by-cons unsigned_abs e.weight (map weight_of es) in
    let size : u * unsigned_abs (counted_in (pos u) e.weight) ≡ 0 = omega (arith, sum, size-exact u e.weight h.0) in
    grind (arith, nat_tests, zero_if_none u es h.1 one (omega (arith, sum)))

none_if_zero : (u : ℕ) (es : List Entry) → DividesEach u es
    → AllByRecursion IsZero (map (entry_in (pos u)) es) → sum_by unsigned_abs (map weight_of es) ≡ 0
none_if_zero u [] h all = refl
none_if_zero u (e ∷ es) h all =
    let none : unsigned_abs (counted_in (pos u) e.weight) ≡ 0 = ap unsigned_abs all.0 in
    let size : u * unsigned_abs (counted_in (pos u) e.weight) ≡ 0 = ap (λ n. u * n) none ∙ omega arith in
    omega (arith, sum_by-cons, size-exact, size, none_if_zero u es h.1 all.1)

-- no whole number above 1 divides all quotients, unless all are 0
pub quotients_coprime : (es : List Entry) (d : ℕ) → 1 < d
    → All (λ e. IsMultiple d e.weight) (map (entry_in (pos (unit_in es))) es)
    → All IsZero (map (entry_in (pos (unit_in es))) es)
quotients_coprime es d more all =
    let ws = map weight_of es in
    let u = unit_in es in
    let one = one_le_unit es in
    let divides = product_divides u d es (unit_divides es) (recursion_from_All _ _ all) in
    let two : 2 ≤ d = omega (arith, more) in
    let grown : u < u * d = omega (arith, mul-le-mul_left u two, one) in
    All-from_recursion _ _ (elim (none_or_within (u * d) ws divides) [
      | inl none ↦ zero_if_none u es (unit_divides es) one none
      | inr low ↦
          let most = greatest_above (sum_by unsigned_abs ws) (u * d) ws (omega (arith, grown)) low divides in
          absurd (omega (arith, most, grown))
    ])

-- where all are 0 the unit is 1
pub unit_of_zeros : (es : List Entry) → All IsZero (map (entry_in (pos (unit_in es))) es)
    → pos (unit_in es) ≡ pos 1
unit_of_zeros es all =
    unit_of_nothing (map weight_of es)
    (none_if_zero (unit_in es) es (unit_divides es) (recursion_from_All _ _ all))
