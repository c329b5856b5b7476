-- Sums of whole numbers over lists.
use Rattle.std.proofs.Common.{◌≡◌, ℕ, Bool, true, false, cond, ◌+◌, ◌<◌, ◌≤◌, arith, ap, ◌∙◌, refl, sym, List, [], ◌∷◌, ◌++◌, map, length, get_or, take, ℤ, pos, ◌+ℤ◌, ◌*ℤ◌, unsigned_abs}
use Rattle.std.specs.List.{count_by, sum_by, flat_map}
use Rattle.std.specs.List.Sorted.{IsPermutation}
use Rattle.std.proofs.lemmas.Int.{ints}
use Rattle.std.proofs.lemmas.List.{take_more}
use Rattle.std.proofs.lemmas.List.Sums.{sum_by-cons}
use Rattle.std.proofs.lemmas.List.Sorted.{sum_by-IsPermutation}
use borrow.Author.Differences.{up, down}
use Rattle.base.specs.Sums.{total_by, if_so}
use Rattle.base.proofs.Products.{times-plus}

pub total_by-append : {X : Type 0} (f : X → ℤ) (xs ys : List X)
    → total_by f (xs ++ ys) ≡ total_by f xs +ℤ total_by f ys
total_by-append f [] ys = omega (arith, ints)
total_by-append f (x ∷ xs) ys = omega (arith, ints, total_by-append f xs ys)

pub total_by_push : {X : Type 0} (f : X → ℤ) (xs : List X) (x : X)
    → total_by f (xs ++ x ∷ []) ≡ total_by f xs +ℤ f x
total_by_push f xs x = omega (arith, ints, total_by-append f xs (x ∷ []))

-- one step of a loop over a list
pub total_by_more : {X : Type 0} (f : X → ℤ) (xs : List X) (i : ℕ) (d : X) → i < length xs
    → total_by f (take (i + 1) xs) ≡ total_by f (take i xs) +ℤ f (get_or xs i d)
total_by_more f xs i d h =
    ap (total_by f) (take_more xs i d h) ∙ total_by_push f (take i xs) (get_or xs i d)

pub total_by-map : {X Y : Type 0} (f : Y → ℤ) (g : X → Y) (xs : List X)
    → total_by f (map g xs) ≡ total_by (λ x. f (g x)) xs
total_by-map f g [] = refl
total_by-map f g (x ∷ xs) = ap (λ s. f (g x) +ℤ s) (total_by-map f g xs)

pub total_by-flat_map : {X Y : Type 0} (f : Y → ℤ) (g : X → List Y) (xs : List X)
    → total_by f (flat_map g xs) ≡ total_by (λ x. total_by f (g x)) xs
total_by-flat_map f g [] = refl
total_by-flat_map f g (x ∷ xs) =
    total_by-append f (g x) (flat_map g xs)
    ∙ ap (λ s. total_by f (g x) +ℤ s) (total_by-flat_map f g xs)

pub total_by-plus : {X : Type 0} (f g : X → ℤ) (xs : List X)
    → total_by (λ x. f x +ℤ g x) xs ≡ total_by f xs +ℤ total_by g xs
total_by-plus f g [] = refl
total_by-plus f g (x ∷ xs) = omega (arith, ints, total_by-plus f g xs)

pub total_by-times : {X : Type 0} (c : ℤ) (f : X → ℤ) (xs : List X)
    → total_by (λ x. c *ℤ f x) xs ≡ c *ℤ total_by f xs
total_by-times c f [] = omega (arith, ints)
total_by-times c f (x ∷ xs) =
    omega (arith, ints, total_by-times c f xs, times-plus c (f x) (total_by f xs))

-- one number for each element that passes a test
pub total_by-if_so : {X : Type 0} (test : X → Bool) (c : ℤ) (xs : List X)
    → total_by (λ x. if_so (test x) c) xs ≡ c *ℤ pos (count_by test xs)
total_by-if_so test c [] = omega (arith, ints)
total_by-if_so test c (x ∷ xs) =
    go (test x) (total_by-if_so test c xs)
    ∙ ap (λ n. c *ℤ pos n) (sym (sum_by-cons (λ y. cond (test y) 1 0) x xs))
  where
    go : (b : Bool) → total_by (λ y. if_so (test y) c) xs ≡ c *ℤ pos (count_by test xs)
        → if_so b c +ℤ total_by (λ y. if_so (test y) c) xs
        ≡ c *ℤ pos (cond b 1 0 + count_by test xs)
    go true rest = omega (arith, ints, rest, times-plus c (pos 1) (pos (count_by test xs)))
    go false rest = omega (arith, ints, rest)

-- two functions that agree
pub total_by-same : {X : Type 0} (f g : X → ℤ) (xs : List X) → ((x : X) → f x ≡ g x)
    → total_by f xs ≡ total_by g xs
total_by-same f g [] h = refl
total_by-same f g (x ∷ xs) h = omega (arith, ints, h x, total_by-same f g xs h)

-- what std's lemmas on sums of naturals say of these sums too
pub total_by_is : {X : Type 0} (f : X → ℤ) (xs : List X)
    → total_by f xs +ℤ pos (sum_by (λ x. down (f x)) xs) ≡ pos (sum_by (λ x. up (f x)) xs)
total_by_is f [] = refl
total_by_is f (x ∷ xs) =
    omega (
      arith,
      ints,
      total_by_is f xs,
      sum_by-cons (λ x. up (f x)) x xs,
      sum_by-cons (λ x. down (f x)) x xs,
    )

pub total_by-IsPermutation : {X : Type 0} (f : X → ℤ) (xs ys : List X) → IsPermutation xs ys
    → total_by f ys ≡ total_by f xs
total_by-IsPermutation f xs ys h =
    omega (
      arith,
      ints,
      total_by_is f xs,
      total_by_is f ys,
      sum_by-IsPermutation (λ x. up (f x)) xs ys h,
      sum_by-IsPermutation (λ x. down (f x)) xs ys h,
    )

-- ---- sizes

pub size-plus : (a b : ℤ) → unsigned_abs (a +ℤ b) ≤ unsigned_abs a + unsigned_abs b
size-plus a b = omega (arith, ints)

-- a sum is at most the sum of the sizes, in size
pub size-total_by : {X : Type 0} (f : X → ℤ) (xs : List X)
    → unsigned_abs (total_by f xs) ≤ sum_by (λ x. unsigned_abs (f x)) xs
size-total_by f [] = omega (arith, ints)
size-total_by f (x ∷ xs) =
    omega (
      arith,
      size-plus (f x) (total_by f xs),
      size-total_by f xs,
      sum_by-cons (λ x. unsigned_abs (f x)) x xs,
    )
