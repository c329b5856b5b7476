-- The constraints that stand for a soft one: they fail where its bit is 0 and it fails.
use Rattle.wbo_reader.proofs.Common.{nat_tests, ◌≡◌, ℕ, Bool, true, false, not, ◌&&◌, ◌||◌, List, [], ◌∷◌, ◌++◌, map, get_or, ℤ, pos, ◌+ℤ◌, ◌-ℤ◌, ◌≤ℤ◌, neg_ℤ, int_lt, int_le, refl, arith, int_eq, list_any, ints, sum_by-cons, if_so, positive_part, total_by-append, Product, Constraint, all_hold, product_value, sum_of, negated, fails, bit_product, least_sum, eased, eased_row}

-- the bit of a variable
abbrev pub bit_of : List Bool → ℕ → Bool
bit_of x v = get_or x v false

-- ---- sums

-- the sum with the other sign
pub sum_of-negated : (x : List Bool) (ts : List Product)
    → sum_of x (map negated ts) ≡ neg_ℤ (sum_of x ts)
sum_of-negated x [] = refl
sum_of-negated x (t ∷ ts) = grind (arith, nat_tests, ints, sum_of-negated x ts)

-- the value of the variable alone
pub bit_product-value : (x : List Bool) (v : ℕ) (c : ℤ)
    → product_value x (bit_product v c) ≡ if_so (bit_of x v) c
bit_product-value x v c = grind (arith, nat_tests, ints)

part-least : (b : Bool) (c : ℤ) → neg_ℤ (pos (positive_part (neg_ℤ c))) ≤ℤ if_so b c
part-least b c = grind (arith, nat_tests, ints)

-- no sum is below the least one
pub least_sum-le : (x : List Bool) (ts : List Product) → least_sum ts ≤ℤ sum_of x ts
least_sum-le x [] = omega (arith, ints)
least_sum-le x (t ∷ ts) =
    let sum = sum_by-cons (λ (u : Product). positive_part (neg_ℤ u.coefficient)) t ts in
    omega (arith, ints, part-least (all_hold x t.literals) t.coefficient, least_sum-le x ts)

-- ---- one constraint with its bit

sum_with_bit : (x : List Bool) (v : ℕ) (ts : List Product) (c : ℤ)
    → sum_of x (ts ++ bit_product v c ∷ []) ≡ sum_of x ts +ℤ if_so (bit_of x v) c
sum_with_bit x v ts c = grind (arith, nat_tests, ints, total_by-append, bit_product-value)

-- whether a sum with the bit is less than the bound
with_bit : (b : Bool) (sum low bound : ℤ) → low ≤ℤ sum
    → int_lt (sum +ℤ if_so b (bound -ℤ low)) bound ≡ (not b && int_lt sum bound)
with_bit b sum low bound le = grind (arith, nat_tests, ints)

-- a bound that no sum is below
without_bit : (b : Bool) (sum low bound : ℤ) → low ≤ℤ sum → bound ≤ℤ low
    → int_lt sum bound ≡ (not b && int_lt sum bound)
without_bit b sum low bound le h = grind (arith, nat_tests, ints)

int_le-true : (a b : ℤ) → int_le a b ≡ true → a ≤ℤ b
int_le-true a b e = grind (arith, ints)

pub eased-fails : (x : List Bool) (v : ℕ) (ts : List Product) (bound : ℤ)
    → fails x (eased v ts bound) ≡ (not (bit_of x v) && int_lt (sum_of x ts) bound)
eased-fails x v ts bound =
    let least = least_sum-le x ts in
    grind (arith, nat_tests, ints, int_le-true, without_bit, sum_with_bit x v ts (bound -ℤ least_sum ts), with_bit (bit_of x v) (sum_of x ts) (least_sum ts) bound least)

-- ---- a row

one_side : (b fail : Bool) → ((not b && fail) || false) ≡ (not b && fail)
one_side b fail = grind (arith, nat_tests)

two_sides : (b : Bool) (sum bound : ℤ)
    → ((not b && int_lt sum bound) || ((not b && int_lt (neg_ℤ sum) (neg_ℤ bound)) || false))
    ≡ (not b && not (int_eq sum bound))
two_sides b sum bound = grind (arith, nat_tests, ints)

-- what stands for a constraint fails where the bit is 0 and the constraint fails
pub eased_row-fails : (x : List Bool) (v : ℕ) (k : Constraint)
    → list_any (fails x) (eased_row v k) ≡ (not (bit_of x v) && fails x k)
eased_row-fails x v k = grind (arith, nat_tests, eased-fails, sum_of-negated, two_sides, one_side)
