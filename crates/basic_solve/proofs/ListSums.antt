-- Sums over lists, and over lists of lists.
use Rattle.basic_solve.proofs.Common.{◌∙◌, nat_tests, ◌≡◌, ℤ, ◌+ℤ◌, ℕ, zero, suc, ◌+◌, ◌<◌, ◌≤◌, Bool, true, cond, List, [], ◌∷◌, ◌++◌, length, get_or, set, drop, replicate, arith, sum_by, list_any, sum_by-cons, total_by, sum_by_push, get_or-le-sum_by, at_drop_more, sum_by-replicate}

-- what is left loses its first item
pub total_left : {X : Type 0} (f : X → ℤ) (xs : List X) (at : ℕ) (d : X) → at < length xs
    → total_by f (drop at xs) ≡ f (get_or xs at d) +ℤ total_by f (drop (at + 1) xs)
total_left f xs at d h = at_drop_more (total_by f) xs at d h

-- ---- lists of lists

pub sums-none : {X : Type 0} (f : X → ℕ) (n : ℕ) → sum_by (sum_by f) (replicate n []) ≡ 0
sums-none f n = sum_by-replicate (sum_by f) n [] ∙ omega arith

pub sums-push : {X : Type 0} (f : X → ℕ) (q : ℕ) (lists : List (List X)) (x : X) → q < length lists
    → sum_by (sum_by f) (set lists q (get_or lists q [] ++ x ∷ []))
    ≡ sum_by (sum_by f) lists + f x
sums-push f q [] x h = absurd (omega arith)
sums-push f zero (l ∷ ls) x h = omega (arith, sum_by-cons, sum_by_push)
sums-push f (suc q) (l ∷ ls) x h = omega (arith, sum_by-cons, sums-push f q ls x (omega arith))

-- one item of one of the lists
pub sums-at : {X : Type 0} (f : X → ℕ) (lists : List (List X)) (w k : ℕ) (d : X) → w < length lists
    → k < length (get_or lists w []) → f (get_or (get_or lists w []) k d) ≤ sum_by (sum_by f) lists
sums-at f lists w k d h l =
    omega (arith, get_or-le-sum_by f (get_or lists w []) k d l, get_or-le-sum_by (sum_by f) lists w [] h)

-- ---- a test that holds of some item

pub any_of-sum : {X : Type 0} (f : X → Bool) (xs : List X) → 0 < sum_by (λ x. cond (f x) 1 0) xs
    → list_any f xs ≡ true
any_of-sum f [] h = absurd (omega arith)
any_of-sum f (x ∷ xs) h = grind (arith, nat_tests, any_of-sum f xs)
