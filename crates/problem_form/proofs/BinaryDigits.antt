-- The binary digits of a number, and its leading zeros.
use Rattle.problem_form.proofs.Common.{nat_tests, ◌≡◌, ℕ, zero, suc, ◌+◌, ◌-◌, ◌*◌, ◌<◌, ◌≤◌, ◌^◌, min, arith, inl, inr, count_leading_zeros, cases_lt, leading_length, pow-suc, pow-zero, pow-le-pow_right, powers_within, binary_digits, DigitsAreLeast}

doubled : (k : ℕ) → 2 ^ suc k ≡ 2 * 2 ^ k
doubled k = rw pow-suc (omega arith)

pub below_power : (k : ℕ) → k < 2 ^ k
below_power zero = rw pow-zero (omega arith)
below_power (suc k) = omega (arith, doubled k, below_power k)

power-le : (i j : ℕ) → i ≤ j → 2 ^ i ≤ 2 ^ j
power-le i j h = pow-le-pow_right {n = 2} (omega arith) h

-- where m digits hold n and one fewer do not, the powers of 2 up to n are the first m
powers_are : (n m : ℕ) → n < 2 ^ m → 2 ^ m ≤ 2 * n + 1 → (k : ℕ) → powers_within k n ≡ min k m
powers_are n m above below zero = omega arith
powers_are n m above below (suc k) =
    let before = powers_are n m above below k in
    elim (cases_lt k m) [
      | inl early ↦ let more = power-le (suc k) m (omega arith) in grind (arith, nat_tests, doubled k)
      | inr late ↦ let more = power-le m k late in grind (arith, nat_tests)
    ]

few_digits : (n m : ℕ) → 2 ^ m ≤ 2 * n + 1 → m ≤ n
few_digits n zero h = omega arith
few_digits n (suc m) h = omega (arith, doubled m, below_power m)

pub digits_unique : (n m : ℕ) → n < 2 ^ m → 2 ^ m ≤ 2 * n + 1 → binary_digits n ≡ m
digits_unique n m above below = omega (arith, powers_are n m above below n, few_digits n m below)

pub digits_are_least : DigitsAreLeast
digits_are_least n =
    grind (arith, nat_tests, leading_length n n (below_power n), below_power n, digits_unique n)

-- what the leading zeros of a number of so many bits leave
pub digits-leading : (k n : ℕ) → n < 2 ^ k → k - count_leading_zeros k n ≡ binary_digits n
digits-leading k n h =
    let long = leading_length k n h in
    omega (arith, digits_unique n long.0 long.2 long.3, long.1)
