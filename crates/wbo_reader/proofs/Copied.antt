-- A constraint in normal form is its own normal form, and what a constraint is eased to.
use Rattle.wbo_reader.proofs.Common.{nat_tests, ◌≡◌, ◌≢◌, Result, OnOk, ℕ, zero, suc, ◌+◌, ◌≤◌, Bool, true, false, ◌||◌, List, [], ◌∷◌, ◌++◌, map, take, Some, ℤ, pos, ◌+ℤ◌, ◌-ℤ◌, int_le, int_lt, unsigned_abs, refl, sym, ap, ◌∙◌, arith, if◌then◌else◌, flat_map, slice_get, sum_by, AllByRecursion, ints, sum_by-cons, recursion_from_All, append_assoc, map-append, total_by, positive_part, Literal, Product, Constraint, IsNormalProduct, negated, constraint_total, fails, is_empty, kept_product, product_constant, normal_constraint, literal_set-ascending, kept_product-kept, Soft, IsNormalConstraint, soft_total, least_part, least_sum, eased, neg_ℤ}

-- ---- normal form

not_empty : {A : Type 0} (xs : List A) → xs ≢ [] → is_empty xs ≡ false
not_empty xs h = grind (arith, nat_tests)

neither : (a b : Bool) → a ≡ false → b ≡ false → (a || b) ≡ false
neither a b e f = grind (arith, nat_tests)

pub product_itself : (n : ℕ) (t : Product) → IsNormalProduct n t → kept_product t ≡ t ∷ []
product_itself n t is =
    grind (arith, nat_tests, kept_product-kept, literal_set-ascending, neither, not_empty)

pub no_constant : (n : ℕ) (t : Product) → IsNormalProduct n t → product_constant t ≡ pos 0
no_constant n t is = ap (λ b. if b then t.coefficient else pos 0) (not_empty t.literals is.filled)

products_themselves : (n : ℕ) (ts : List Product) → AllByRecursion (IsNormalProduct n) ts
    → flat_map kept_product ts ≡ ts
products_themselves n [] h = refl
products_themselves n (t ∷ ts) h = λ i. product_itself n t h.0 i ++ products_themselves n ts h.1 i

no_constants : (n : ℕ) (ts : List Product) → AllByRecursion (IsNormalProduct n) ts
    → total_by product_constant ts ≡ pos 0
no_constants n [] h = refl
no_constants n (t ∷ ts) h = omega (arith, ints, no_constant n t h.0, no_constants n ts h.1)

pub normal_itself : (n : ℕ) (k : Constraint) → IsNormalConstraint n k → normal_constraint k ≡ k
normal_itself n k h =
    let each = recursion_from_All (IsNormalProduct n) k.products h in
    grind (arith, nat_tests, ints, no_constants, products_themselves)

-- ---- what is eased

-- ---- one of many

pub soft_within : (ss : List Soft) (i : ℕ) (s : Soft) → slice_get ss i ≡ Some s
    → constraint_total s.constraint ≤ sum_by soft_total ss
soft_within [] i s at = absurd cc
soft_within (t ∷ ss) zero s at = simp sum_by-cons (grind (arith, nat_tests))
soft_within (t ∷ ss) (suc i) s at =
    omega (arith, sum_by-cons soft_total t ss, soft_within ss i s at)

-- the product of the bit, pushed behind the others
pub eased_pushed : {A E : Type 0} (v : ℕ) (k : Constraint) (r : Result A E) (new : List Product)
    (ls : List Literal) (c : ℤ) → int_le k.bound (least_sum k.products) ≡ false
    → k.exact ≡ false → ls ≡ record { variable = v; negated = false } ∷ []
    → c ≡ k.bound -ℤ least_sum k.products
    → OnOk r (new ≡ k.products ++ record { literals = ls; coefficient = c } ∷ [])
    → OnOk r (record { products = new; bound = k.bound; exact = k.exact }
    ≡ eased v k.products k.bound)
eased_pushed v k r new ls c short inexact literals gap pushed = grind (arith, nat_tests, ints)

-- ---- least sums

pub least_part_negative : (c : ℤ) → int_lt c (pos 0) ≡ true → least_part c ≡ c
least_part_negative c e = grind (arith, nat_tests, ints)

pub least_part_other : (c : ℤ) → int_lt c (pos 0) ≡ false → least_part c ≡ pos 0
least_part_other c e = grind (arith, nat_tests, ints)

pub least_part-size : (c : ℤ) → unsigned_abs (least_part c) ≤ unsigned_abs c
least_part-size c = grind (arith, nat_tests, ints)

pub least_sum-cons : (t : Product) (ts : List Product)
    → least_sum (t ∷ ts) ≡ least_part t.coefficient +ℤ least_sum ts
least_sum-cons t ts =
    let sum = sum_by-cons (λ (u : Product). positive_part (neg_ℤ u.coefficient)) t ts in
    omega (arith, ints)

-- ---- bits, one after another

take_at : {A : Type 0} (xs : List A) (i : ℕ) (x : A) → slice_get xs i ≡ Some x
    → take (suc i) xs ≡ take i xs ++ x ∷ []
take_at [] i x at = absurd cc
take_at (a ∷ xs) zero x at = grind (arith, nat_tests)
take_at (a ∷ xs) (suc i) x at = ap (λ ys. a ∷ ys) (take_at xs i x at)

pub bits_more : (x y new : List Bool) (soft : List Soft) (i : ℕ) (s : Soft) (b : Bool)
    → y ≡ x ++ map (λ (k : Soft). fails x k.constraint) (take i soft)
    → slice_get soft i ≡ Some s → b ≡ fails x s.constraint → new ≡ y ++ b ∷ []
    → new ≡ x ++ map (λ (k : Soft). fails x k.constraint) (take (i + 1) soft)
bits_more x y new soft i s b so_far at is more =
    let f : Soft → Bool = λ (k : Soft). fails x k.constraint in
    let next : i + 1 ≡ suc i = omega arith in
    more ∙ (λ j. so_far j ++ is j ∷ []) ∙ append_assoc x (map f (take i soft)) (f s ∷ [])
    ∙ ap (λ bs. x ++ bs) (sym (map-append f (take i soft) (s ∷ [])))
    ∙ ap (λ ss. x ++ map f ss) (sym (take_at soft i s at) ∙ ap (λ n. take n soft) (sym next))
