-- The weights of the soft constraints that fail, one after another.
use Rattle.wbo_reader.proofs.Common.{nat_tests, ints, ◌≡◌, ℕ, ◌+◌, ◌≤◌, Bool, false, ℤ, pos, List, [], ◌∷◌, drop, Some, ap, arith, list_any, sum_by, slice_get, sum_by-cons, fails, drop-at, Soft, WboContent, paid, paid_for, reaches_top, soft_total, wbo_cost}
use Rattle.base.specs.declared.costs.Cost.TheVariants.{Whole}

pub paid_next : (x : List Bool) (soft : List Soft) (i : ℕ) (s : Soft) → slice_get soft i ≡ Some s
    → paid x (drop i soft) ≡ paid_for x s + paid x (drop (i + 1) soft)
paid_next x soft i s at =
    omega (arith, ap (paid x) (drop-at soft i s at), sum_by-cons (paid_for x) s (drop (i + 1) soft))

one_paid : (x : List Bool) (s : Soft) → paid_for x s ≤ soft_total s
one_paid x s = grind (arith, nat_tests)

pub paid-le : (x : List Bool) (soft : List Soft) → paid x soft ≤ sum_by soft_total soft
paid-le x [] = omega arith
paid-le x (s ∷ soft) = omega (arith, sum_by-cons, one_paid, paid-le x soft)

pub cost_whole : (s : WboContent) (x : List Bool) (sum : ℕ) (value : ℤ) → sum ≡ paid x s.soft
    → list_any (fails x) s.hard ≡ false → reaches_top s.top sum ≡ false → value ≡ pos sum
    → Whole value ≡ wbo_cost s x
cost_whole s x sum value is hard less same = grind (arith, nat_tests, ints)
