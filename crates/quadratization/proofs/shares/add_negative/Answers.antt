use Rattle.quadratization.proofs.Common.{nat_tests, rules, arith, ◌≡◌, ◌+◌, ◌≤◌, ◌∙◌, ap, ℕ, ℤ, pos, ◌-ℤ◌, ◌*ℤ◌, FitsSigned, to_z, of_z, unsigned_abs, w128, ints, to_z-of_z, fits_signed_from_abs}
use Rattle.quadratization.proofs.shares.add_negative.Goals as goal

-- how often the coefficient counts, with e complements among d literals
taken : (e d : ℕ) → e ≤ d → d ≤ 2048 → to_z w128 (e + 1) -ℤ to_z w128 d ≡ pos (e + 1) -ℤ pos d
taken e d few short = omega (arith, ints, few, short)

times_fits : (e d : ℕ) → e ≤ d → d ≤ 2048 → FitsSigned w128 (pos (e + 1) -ℤ pos d)
times_fits e d few short = fits_signed_from_abs w128 _ (omega (arith, ints, few, short))

counted : (e d : ℕ) → e ≤ d → d ≤ 2048
    → to_z w128 (of_z w128 (to_z w128 (e + 1) -ℤ to_z w128 d)) ≡ pos (e + 1) -ℤ pos d
counted e d few short =
    ap (λ z. to_z w128 (of_z w128 z)) (taken e d few short) ∙ to_z-of_z w128 _ (times_fits e d few short)

-- what the code adds is the share
share_is : (z p : ℤ) (e d : ℕ) → e ≤ d → d ≤ 2048 → FitsSigned w128 z → FitsSigned w128 p
    → p ≡ to_z w128 (of_z w128 z) *ℤ to_z w128 (of_z w128 (to_z w128 (e + 1) -ℤ to_z w128 d))
    → to_z w128 (of_z w128 p) ≡ z *ℤ (pos (e + 1) -ℤ pos d)
share_is z p e d few short fits more is =
    to_z-of_z w128 p more ∙ is ∙ (λ i. to_z-of_z w128 z fits i *ℤ counted e d few short i)

pub overflow_sub-negated : goal.overflow_sub-negated
overflow_sub-negated c = grind (arith, nat_tests, ints, taken, times_fits)

pub product-share-requires-clause-coefficient : goal.product-share-requires-clause-coefficient
product-share-requires-clause-coefficient c =
    omega (arith, ap unsigned_abs (to_z-of_z w128 c.args.coefficient (search rules)), c.requires.coefficient)

pub product-share-requires-clause-count : goal.product-share-requires-clause-count
product-share-requires-clause-count c = grind (arith, nat_tests, ints, counted)

pub add_share-requires-clause-small : goal.add_share-requires-clause-small
add_share-requires-clause-small c = grind (arith, nat_tests, ints, share_is)

pub returns : goal.returns
returns c = grind (arith, nat_tests, ints, share_is)
