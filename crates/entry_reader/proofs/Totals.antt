-- What the products of a coupling add to the numbers of a problem.
use Rattle.entry_reader.proofs.Common.{◌≡◌, ◌+◌, ◌*◌, ◌<◌, ◌≤◌, ◌^◌, ℕ, ℤ, pos, negsuc, nat_abs, ◌*ℤ◌, ◌+ℤ◌, neg_ℤ, ◌∙◌, arith, ints, w128, to_z, of_z, to_z-of_z, fits_signed_from_abs}

-- ---- what is read back from the bits of a small number, and of those that are made of it

pub kept : (c : ℤ) → nat_abs c < 2 ^ 100 → to_z w128 (of_z w128 c) ≡ c
kept c small = to_z-of_z w128 c (fits_signed_from_abs w128 c (omega arith))

pub four_kept : (c : ℤ) → nat_abs c < 2 ^ 100 → to_z w128 (of_z w128 (pos 4 *ℤ c)) ≡ pos 4 *ℤ c
four_kept c small = to_z-of_z w128 (pos 4 *ℤ c) (fits_signed_from_abs w128 (pos 4 *ℤ c) (omega (arith, ints)))

pub less_kept : (c : ℤ) → nat_abs c < 2 ^ 100 → to_z w128 (of_z w128 (negsuc 1 *ℤ c)) ≡ negsuc 1 *ℤ c
less_kept c small = to_z-of_z w128 (negsuc 1 *ℤ c) (fits_signed_from_abs w128 (negsuc 1 *ℤ c) (omega (arith, ints)))

pub twice_kept : (c : ℤ) → nat_abs c < 2 ^ 100 → to_z w128 (of_z w128 (pos 2 *ℤ c)) ≡ pos 2 *ℤ c
twice_kept c small = to_z-of_z w128 (pos 2 *ℤ c) (fits_signed_from_abs w128 (pos 2 *ℤ c) (omega (arith, ints)))

pub negated_kept : (c : ℤ) → nat_abs c < 2 ^ 100 → to_z w128 (of_z w128 (pos 0 +ℤ neg_ℤ c)) ≡ neg_ℤ c
negated_kept c small =
    let negated : pos 0 +ℤ neg_ℤ c ≡ neg_ℤ c = omega (arith, ints) in
    to_z-of_z w128 _ (fits_signed_from_abs w128 (pos 0 +ℤ neg_ℤ c) (omega (arith, ints))) ∙ negated

-- the first three products, by their sizes, leave room for the last
pub three_within : (t t1 t2 t3 : ℕ) (c : ℤ) → nat_abs c < 2 ^ 100 → t1 ≤ t + nat_abs (to_z w128 (of_z w128 c))
    → t2 ≤ t1 + nat_abs (to_z w128 (of_z w128 (pos 4 *ℤ to_z w128 (of_z w128 c))))
    → t3 ≤ t2 + nat_abs (to_z w128 (of_z w128 (negsuc 1 *ℤ to_z w128 (of_z w128 c))))
    → t3 + nat_abs (to_z w128 (of_z w128 (negsuc 1 *ℤ to_z w128 (of_z w128 c)))) ≤ t + 9 * nat_abs c
three_within t t1 t2 t3 c small h1 h2 h3 =
    let same = kept c small in
    let four = four_kept c small in
    let less = less_kept c small in
    rw (same, less) (omega (arith, ints, rw same at h1, rw (same, four) at h2, rw (same, less) at h3))
