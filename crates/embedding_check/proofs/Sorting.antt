-- The qubits of a chain in ascending order.
use Rattle.embedding_check.proofs.Common.{◌≡◌, ℕ, zero, suc, ◌+◌, ◌<◌, ◌≤◌, ◌==◌, Bool, true, List, [], ◌∷◌, length, get_or, take, drop, ◌-◌, if◌then◌else◌, refl, sym, ap, ◌∙◌, arith, count_by, IsPermutation, IsNonDecreasing, cases_eq, eqb-true, nat_tests, sum_by-IsPermutation, Contains-permutation, IsPermutation-sym, Contains-get_or, get_or_default_zero, get_or-drop, take_all, length-drop, sum_by-cons, is_in, qubit_at, IsSortedChain, is_in_at, Any-from_list_any, get_or_default}

pub same_test : (a b : ℕ) → a ≡ b → (a == b) ≡ true
same_test a b e = grind (arith, nat_tests)

-- ---- in a chain

pub at_of_in : (xs : List ℕ) (q : ℕ) → is_in xs q ≡ true → (k : ℕ) × (k < length xs) × (qubit_at xs k ≡ q)
at_of_in xs q in' =
    let a = Any-from_list_any (λ p. p == q) xs in' in
    (a.0, a.2, get_or_default xs a.0 0 a.1 a.2 ∙ a.3 ∙ eqb-true a.1 q a.4)

-- ---- once

count_cons : (q x : ℕ) (xs : List ℕ) → count_by (λ p. p == q) (x ∷ xs) ≡ (if x == q then 1 else 0) + count_by (λ p. p == q) xs
count_cons q x xs = sum_by-cons (λ p. if p == q then 1 else 0) x xs

pub one_of : (xs : List ℕ) (q j : ℕ) → j < length xs → qubit_at xs j ≡ q → 1 ≤ count_by (λ p. p == q) xs
one_of [] q j below is = absurd (omega (arith, below))
one_of (x ∷ xs) q zero below is =
    omega (arith, count_cons q x xs, ap {B = ℕ} (λ (b : Bool). if b then 1 else 0) (same_test x q is))
one_of (x ∷ xs) q (suc j) below is = omega (arith, count_cons q x xs, one_of xs q j (omega (arith, below)) is)

two_of : (xs : List ℕ) (q i j : ℕ) → i < j → j < length xs → qubit_at xs i ≡ q → qubit_at xs j ≡ q
    → 2 ≤ count_by (λ p. p == q) xs
two_of [] q i j less below first second = absurd (omega (arith, below))
two_of (x ∷ xs) q i zero less below first second = absurd (omega (arith, less))
two_of (x ∷ xs) q zero (suc j) less below first second =
    let one = one_of xs q j (omega (arith, below)) second in
    let more = count_cons q x xs in
    grind (arith, nat_tests)
two_of (x ∷ xs) q (suc i) (suc j) less below first second =
    omega (arith, count_cons q x xs, two_of xs q i j (omega (arith, less)) (omega (arith, below)) first second)

-- a qubit that is listed once has one place
pub one_place : (xs : List ℕ) → ((q : ℕ) → count_by (λ p. p == q) xs ≤ 1) → (i j : ℕ) → i < j
    → j < length xs → qubit_at xs i ≡ qubit_at xs j → ⊥
one_place xs once i j less below same =
    omega (arith, once (qubit_at xs j), two_of xs (qubit_at xs j) i j less below same refl)

count_permutation : (q : ℕ) (xs ys : List ℕ) → IsPermutation xs ys
    → count_by (λ p. p == q) ys ≡ count_by (λ p. p == q) xs
count_permutation q xs ys moved = sum_by-IsPermutation (λ p. if p == q then 1 else 0) xs ys moved

pub sorted_is : (chain qs : List ℕ) → ((q : ℕ) → count_by (λ p. p == q) chain ≤ 1) → IsPermutation chain qs
    → IsNonDecreasing qs → IsSortedChain chain qs
sorted_is chain qs once moved sorted = record {
  inside = λ i below.
      let k = Contains-permutation qs chain (qubit_at qs i) (IsPermutation-sym chain qs moved) (Contains-get_or qs i 0 below) in
      is_in_at chain k.0 (qubit_at qs i) k.1 (sym (get_or_default_zero chain k.0 (qubit_at qs i) k.1) ∙ k.2);
  found = λ q in'.
      let k = at_of_in chain q in' in
      let there = Contains-permutation chain qs q moved (rw k.2 at (Contains-get_or chain k.0 0 k.1)) in
      (there.0, there.1, sym (get_or_default_zero qs there.0 q there.1) ∙ there.2);
  rising = λ i j less below.
      let le = sorted i j 0 (omega (arith, less)) below in
      let one = one_place qs (λ q. omega (arith, once q, count_permutation q chain qs moved)) i j less below in
      grind (arith, nat_tests, cases_eq (qubit_at qs i) (qubit_at qs j));
}

-- the place of a listed qubit
pub place_in : (chain qs : List ℕ) (k at : ℕ) → IsSortedChain chain qs → k < length chain
    → ((i : ℕ) → i < length qs → qubit_at qs i ≡ qubit_at chain k → at ≡ i)
    → (at < length qs) × (qubit_at qs at ≡ qubit_at chain k)
place_in chain qs k at sorted below exact =
    let there = sorted.found (qubit_at chain k) (is_in_at chain k (qubit_at chain k) below refl) in
    let e = exact there.0 there.1 there.2 in
    (rw e there.1, rw e there.2)

-- ---- the rest of a list

pub rest_at : (xs : List ℕ) (i d : ℕ) → 1 ≤ i → get_or (drop 1 xs) (i - 1) d ≡ get_or xs i d
rest_at xs i d some = grind (arith, nat_tests, get_or-drop)

pub rest_all : (xs : List ℕ) (n : ℕ) → length xs ≤ n → take (n - 1) (drop 1 xs) ≡ drop 1 xs
rest_all xs n all = take_all (n - 1) (drop 1 xs) (omega (arith, all, length-drop 1 xs))
