-- Common divisors of weights, and the greatest of them.
use Rattle.quad_form.proofs.Common.{nat_tests, ◌≡◌, ◌⊎◌, inl, inr, ℕ, zero, suc, ◌*◌, ◌%◌, ◌≤◌, true, ℤ, pos, ◌*ℤ◌, int_rem, unsigned_abs, List, [], ◌∷◌, ◌++◌, map, refl, ap, subst, arith, ◌∣◌, IsGcd, AllByRecursion, list_all, sum_by, one-dvd, eq-zero_of_zero-dvd, dvd_trans, dvd_refl, eq-eqb, eqb-true, and_parts, and_from, ints, quot-rem, unsigned_abs-mul, sum_by-cons, recursion_from_All, All-from_recursion, All-append, All-nil, IsGcd-from_zero, IsGcd-from_mod, IsGcd-swap, dvd-zero, le_of_dvd, dvd_of_mod-eq-zero, mod-eq-zero_of_dvd, Entry, is_multiple, greatest_within, unit_of, counted_in, entry_in, IsCommonDivisor}

-- d divides the size of each weight
abbrev pub Divides : ℕ → List ℤ → Type 0
Divides d ws = AllByRecursion (λ w. d ∣ unsigned_abs w) ws

-- ---- one by one

Divides-from_test : (d : ℕ) (ws : List ℤ) → list_all (is_multiple d) ws ≡ true → Divides d ws
Divides-from_test d [] h = tt
Divides-from_test d (w ∷ ws) h = (
  dvd_of_mod-eq-zero d (eqb-true _ _ ((and_parts (is_multiple d w) _ h).0)),
  Divides-from_test d ws ((and_parts (is_multiple d w) _ h).1),
)

test-from_Divides : (d : ℕ) (ws : List ℤ) → Divides d ws → list_all (is_multiple d) ws ≡ true
test-from_Divides d [] h = refl
test-from_Divides d (w ∷ ws) h =
    and_from (is_multiple d w) _ (eq-eqb _ _ (mod-eq-zero_of_dvd d h.0)) (test-from_Divides d ws h.1)

one_divides : (ws : List ℤ) → Divides 1 ws
one_divides [] = tt
one_divides (w ∷ ws) = (one-dvd (unsigned_abs w), one_divides ws)

-- ---- the greatest

pub greatest_divides : (n : ℕ) (ws : List ℤ) → Divides (greatest_within n ws) ws
greatest_divides zero ws = one_divides ws
greatest_divides (suc n) ws =
    grind (arith, nat_tests, ints, greatest_divides n ws, Divides-from_test)

pub one_le_greatest : (n : ℕ) (ws : List ℤ) → 1 ≤ greatest_within n ws
one_le_greatest zero ws = omega arith
one_le_greatest (suc n) ws = grind (arith, nat_tests, ints, one_le_greatest n ws)

pub greatest_above : (n d : ℕ) (ws : List ℤ) → 1 ≤ d → d ≤ n → Divides d ws
    → d ≤ greatest_within n ws
greatest_above zero d ws one low h = absurd (omega arith)
greatest_above (suc n) d ws one low h =
    let rest : d ≤ n → d ≤ greatest_within n ws = λ less. greatest_above n d ws one less h in
    let all : d ≡ suc n → list_all (is_multiple (suc n)) ws ≡ true = λ same. test-from_Divides (suc n) ws (rw same at h) in
    grind (arith, rest, all)

-- ---- where all are 0

pub none_or_within : (d : ℕ) (ws : List ℤ) → Divides d ws
    → (sum_by unsigned_abs ws ≡ 0) ⊎ (d ≤ sum_by unsigned_abs ws)
none_or_within d [] h = inl refl
none_or_within d (w ∷ ws) h =
    let rest0 = none_or_within d ws h.1 in simp sum_by-cons (grind (arith, nat_tests, ints, le_of_dvd))

all_divide : (k : ℕ) (ws : List ℤ) → sum_by unsigned_abs ws ≡ 0 → Divides k ws
all_divide k [] h = tt
all_divide k (w ∷ ws) h =
    let sum = sum_by-cons unsigned_abs w ws in
    let none : 0 ≡ unsigned_abs w = omega (arith, sum) in
    (subst (λ n. k ∣ n) none (dvd-zero k), all_divide k ws (omega (arith, sum)))

zero_divides : (ws : List ℤ) → Divides 0 ws → sum_by unsigned_abs ws ≡ 0
zero_divides [] h = refl
zero_divides (w ∷ ws) h =
    omega (arith, sum_by-cons unsigned_abs w ws, eq-zero_of_zero-dvd h.0, zero_divides ws h.1)

-- ---- the unit, from a common divisor

pub unit_of_nothing : (ws : List ℤ) → sum_by unsigned_abs ws ≡ 0 → unit_of ws ≡ pos 1
unit_of_nothing ws none = ap (λ n. pos (greatest_within n ws)) none

pub unit_from_zero : (ws : List ℤ) → IsCommonDivisor 0 ws 0 → unit_of ws ≡ pos 1
unit_from_zero ws c = unit_of_nothing ws (zero_divides ws (recursion_from_All _ ws c.weights))

pub unit_from_divisor : (ws : List ℤ) (d : ℕ) → 1 ≤ d → IsCommonDivisor 0 ws d → unit_of ws ≡ pos d
unit_from_divisor ws d one c =
    let n = sum_by unsigned_abs ws in
    let all : Divides d ws = recursion_from_All _ ws c.weights in
    let most : (k : ℕ) → Divides k ws → k ≤ d =
    λ k h. le_of_dvd one (c.greatest k (dvd-zero k) (All-from_recursion _ ws h)) in
    elim (none_or_within d ws all) [
      | inl none ↦ let more : suc d ≤ d = most (suc d) (all_divide (suc d) ws none) in absurd (omega (arith, more))
      | inr low ↦
          let same : greatest_within n ws ≡ d = omega (arith, greatest_above n d ws one low all, most _ (greatest_divides n ws)) in
          ap pos same
    ]

-- a common divisor is within the sum of the sizes
pub divisor_within : (ws : List ℤ) (d : ℕ) → IsCommonDivisor 0 ws d → d ≤ sum_by unsigned_abs ws
divisor_within ws d c =
    elim (none_or_within d ws (recursion_from_All _ ws c.weights)) [
      | inl none ↦
          let zero = eq-zero_of_zero-dvd (c.greatest 0 (dvd-zero 0) (All-from_recursion _ ws (all_divide 0 ws none))) in
          omega (arith, zero)
      | inr low ↦ low
    ]

-- ---- weight by weight

pub divisor_at_first : (start : ℕ) → IsCommonDivisor start [] start
divisor_at_first start = record {
  first = dvd_refl start;
  weights = All-nil _;
  greatest = λ k p q. p;
}

Divides-push : (d : ℕ) (ws : List ℤ) (w : ℤ) → Divides d ws → d ∣ unsigned_abs w
    → Divides d (ws ++ w ∷ [])
Divides-push d [] w all this = (this, tt)
Divides-push d (v ∷ ws) w all this = (all.0, Divides-push d ws w all.1 this)

Divides-pushed : (d : ℕ) (ws : List ℤ) (w : ℤ) → Divides d (ws ++ w ∷ [])
    → Divides d ws × (d ∣ unsigned_abs w)
Divides-pushed d [] w all = (tt, all.0)
Divides-pushed d (v ∷ ws) w all = grind (arith, nat_tests, ints, Divides-pushed d ws w all.1)

pub Divides-divisor : (d e : ℕ) (ws : List ℤ) → e ∣ d → Divides d ws → Divides e ws
Divides-divisor d e [] h all = tt
Divides-divisor d e (w ∷ ws) h all = (dvd_trans e h all.0, Divides-divisor d e ws h all.1)

pub divisor_more : (start : ℕ) (ws : List ℤ) (w : ℤ) (d e : ℕ) → IsCommonDivisor start ws d
    → IsGcd d (unsigned_abs w) e → IsCommonDivisor start (ws ++ w ∷ []) e
divisor_more start ws w d e c gcd = record {
  first = dvd_trans e gcd.0 c.first;
  weights = All-from_recursion _ _ (Divides-push e ws w
      (Divides-divisor d e ws gcd.0 (recursion_from_All _ ws c.weights)) gcd.1);
  greatest = λ k p q.
      let all = Divides-pushed k ws w (recursion_from_All _ _ q) in
      gcd.2 k (c.greatest k p (All-from_recursion _ ws all.0)) all.1;
}

Divides-of_more : (d : ℕ) (ws vs : List ℤ) → Divides d (ws ++ vs) → Divides d ws
Divides-of_more d [] vs all = tt
Divides-of_more d (w ∷ ws) vs all = (all.0, Divides-of_more d ws vs all.1)

-- where it is 1, it stays 1
pub divisor_stays_one : (start : ℕ) (ws vs : List ℤ) → IsCommonDivisor start ws 1
    → IsCommonDivisor start (ws ++ vs) 1
divisor_stays_one start ws vs c = record {
  first = one-dvd start;
  weights = All-from_recursion _ _ (one_divides (ws ++ vs));
  greatest = λ k p q.
      c.greatest k p (All-from_recursion _ ws (Divides-of_more k ws vs (recursion_from_All _ _ q)));
}

-- of a weight before others
pub divisor_before : (start : ℕ) (w : ℤ) (ws : List ℤ) (d e : ℕ) → IsGcd start (unsigned_abs w) d
    → IsCommonDivisor d ws e → IsCommonDivisor start (w ∷ ws) e
divisor_before start w ws d e gcd c =
    let all : Divides e (w ∷ ws) = (dvd_trans e c.first gcd.1, recursion_from_All _ ws c.weights) in
    record {
      first = dvd_trans e c.first gcd.0;
      weights = All-from_recursion _ (w ∷ ws) all;
      greatest = λ k p q.
          let each : Divides k (w ∷ ws) = recursion_from_All _ (w ∷ ws) q in
          c.greatest k (gcd.2 k p each.0) (All-from_recursion _ ws each.1);
    }

-- of 1 and others
pub divisor_of_one : (ws : List ℤ) → IsCommonDivisor 1 ws 1
divisor_of_one ws = divisor_stays_one 1 [] ws (divisor_at_first 1)

-- one list after another
pub divisor_of_both : (ws vs : List ℤ) (d e : ℕ) → IsCommonDivisor 0 ws d → IsCommonDivisor d vs e
    → IsCommonDivisor 0 (ws ++ vs) e
divisor_of_both ws vs d e c h = record {
  first = dvd-zero e;
  weights = All-append (λ w. e ∣ unsigned_abs w) ws vs
      (All-from_recursion _ ws (Divides-divisor d e ws h.first (recursion_from_All _ ws c.weights)))
      h.weights;
  greatest = λ k p q.
      let all = recursion_from_All _ _ q in
      h.greatest k (c.greatest k p (All-from_recursion _ ws (Divides-of_more k ws vs all)))
      (All-from_recursion _ vs (Divides-of_rest k ws vs all));
}
  where
    Divides-of_rest : (k : ℕ) (ws vs : List ℤ) → Divides k (ws ++ vs) → Divides k vs
    Divides-of_rest k [] vs all = all
    Divides-of_rest k (w ∷ ws) vs all = Divides-of_rest k ws vs all.1

-- a divisor of a number is the greatest of both
pub gcd_of_multiple : (d n : ℕ) → n % d ≡ 0 → IsGcd d n d
gcd_of_multiple d n rest = IsGcd-swap n d d (IsGcd-from_mod n d d (IsGcd-from_zero d (n % d) rest))

-- ---- exact quotients

no_rest : (u : ℕ) (w : ℤ) → u ∣ unsigned_abs w → int_rem w (pos u) ≡ pos 0
no_rest u w h = grind (arith, nat_tests, ints, mod-eq-zero_of_dvd)

pub exact : (u : ℕ) (w : ℤ) → u ∣ unsigned_abs w → pos u *ℤ counted_in (pos u) w ≡ w
exact u w h = omega (arith, ints, quot-rem w (pos u), no_rest u w h)

pub size-exact : (u : ℕ) (w : ℤ) → u ∣ unsigned_abs w
    → u * unsigned_abs (counted_in (pos u) w) ≡ unsigned_abs w
size-exact u w h = grind (arith, nat_tests, ints, unsigned_abs-mul, exact)

-- ---- the unit 1

counted_in-one : (w : ℤ) → counted_in (pos 1) w ≡ w
counted_in-one w = omega (arith, ints, exact 1 w (one-dvd (unsigned_abs w)))

pub numbers_in-one : (ws : List ℤ) → map (counted_in (pos 1)) ws ≡ ws
numbers_in-one [] = refl
numbers_in-one (w ∷ ws) = λ i. counted_in-one w i ∷ numbers_in-one ws i

pub couplers_in-one : (es : List Entry) → map (entry_in (pos 1)) es ≡ es
couplers_in-one [] = refl
couplers_in-one (e ∷ es) = λ i. record e { weight = counted_in-one e.weight i } ∷ couplers_in-one es i
