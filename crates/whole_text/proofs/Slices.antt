-- Parts of a list between two places.
use Rattle.whole_text.proofs.Common.{nat_tests, ◌≡◌, ℕ, ◌+◌, ◌-◌, ◌<◌, ◌≤◌, List, [], length, get_or, take, drop, refl, arith, slice_range, drop-drop, drop-take, take-take, length-take, length-drop, get_or-take, get_or-drop}

pub slice_length : (xs : List ℕ) (a b : ℕ) → b ≤ length xs → length (slice_range xs a b) ≡ b - a
slice_length xs a b bl = grind (arith, nat_tests, length-take, length-drop)

pub slice_at : (xs : List ℕ) (a b k : ℕ) → k < b - a → get_or (slice_range xs a b) k 0 ≡ get_or xs (a + k) 0
slice_at xs a b k lt = grind (arith, nat_tests, get_or-take, get_or-drop)

pub slice_dropped : (xs : List ℕ) (a n b : ℕ) → a + n ≤ b → drop n (slice_range xs a b) ≡ slice_range xs (a + n) b
slice_dropped xs a n b le =
    grind (arith, nat_tests, drop-take n (b - (a + n)) (drop a xs), drop-drop n a xs)

pub slice_taken : (xs : List ℕ) (a n b : ℕ) → a + n ≤ b → take n (slice_range xs a b) ≡ slice_range xs a (a + n)
slice_taken xs a n b le = grind (arith, nat_tests, take-take)

pub slice_none : (xs : List ℕ) (a : ℕ) → slice_range xs a a ≡ []
slice_none xs a = let k : a - a ≡ 0 = omega arith in rw k refl
