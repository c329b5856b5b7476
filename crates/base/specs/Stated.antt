-- The main laws, as statements.
use Rattle.std.specs.Prelude.{◌≡◌, ℤ, pos, ◌+ℤ◌, ◌*ℤ◌, ◌≤ℤ◌, ℕ, List, ◌++◌}
use Rattle.std.specs.List.Sorted.{IsPermutation}
use Rattle.base.specs.Sums.{total_by}

-- a product of three is one number, however it is grouped
abbrev pub ProductsAssociate : Type 0
ProductsAssociate = (a b c : ℤ) → (a *ℤ b) *ℤ c ≡ a *ℤ (b *ℤ c)

-- a product with a sum is the sum of the products
abbrev pub ProductsDistribute : Type 0
ProductsDistribute = (a b c : ℤ) → a *ℤ (b +ℤ c) ≡ (a *ℤ b) +ℤ (a *ℤ c)

-- a factor that is not negative keeps the order
abbrev pub ProductsKeepOrder : Type 0
ProductsKeepOrder = (a b c : ℤ) → pos 0 ≤ℤ a → b ≤ℤ c → (a *ℤ b) ≤ℤ (a *ℤ c)

-- the sum over two lists is the sum of their sums
abbrev pub TotalsAppend : Type 0
TotalsAppend = (f : ℕ → ℤ) (xs ys : List ℕ) → total_by f (xs ++ ys) ≡ total_by f xs +ℤ total_by f ys

-- a sum does not depend on the order of its list
abbrev pub TotalsPermute : Type 0
TotalsPermute = (f : ℕ → ℤ) (xs ys : List ℕ) → IsPermutation xs ys → total_by f ys ≡ total_by f xs
