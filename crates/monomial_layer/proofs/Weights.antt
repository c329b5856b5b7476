-- What a product of a coefficient and a number is, as the code computes it.
use Rattle.monomial_layer.proofs.Common.{nat_tests, ◌≡◌, ℕ, ◌^◌, ◌≤◌, ℤ, pos, ◌*ℤ◌, ◌-ℤ◌, neg_ℤ, unsigned_abs, FitsSigned, to_z, of_z, arith, w128, ints, to_z-of_z, fits_signed_from_abs}

small_fits : (z : ℤ) → unsigned_abs z ≤ 2 ^ 124 → FitsSigned w128 z
small_fits z small = fits_signed_from_abs w128 z (omega (arith, small))

module _ (c x : ℤ) (n : ℕ) (fits : FitsSigned w128 c) (more : FitsSigned w128 x) (is : x ≡ pos n)
    (small : unsigned_abs (c *ℤ pos n) ≤ 2 ^ 124) where
  -- the factors, read back from their bits
  product_back : to_z w128 (of_z w128 c) *ℤ to_z w128 (of_z w128 x) ≡ c *ℤ pos n
  product_back = rw (to_z-of_z w128 c fits, to_z-of_z w128 x more, is)

  pub product_fits : FitsSigned w128 (to_z w128 (of_z w128 c) *ℤ to_z w128 (of_z w128 x))
  product_fits = rw product_back (small_fits _ small)

  pub product_is : to_z w128 (of_z w128 (to_z w128 (of_z w128 c) *ℤ to_z w128 (of_z w128 x)))
      ≡ c *ℤ pos n
  product_is = grind (arith, nat_tests, ints)

  pub negated_fits : FitsSigned w128
      (pos 0 -ℤ to_z w128 (of_z w128 (to_z w128 (of_z w128 c) *ℤ to_z w128 (of_z w128 x))))
  negated_fits = grind (arith, nat_tests, ints)

  pub negated_is : to_z w128 (of_z w128
      (pos 0 -ℤ to_z w128 (of_z w128 (to_z w128 (of_z w128 c) *ℤ to_z w128 (of_z w128 x)))))
      ≡ neg_ℤ (c *ℤ pos n)
  negated_is = grind (arith, nat_tests, ints)
