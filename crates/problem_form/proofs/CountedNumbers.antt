-- The numbers that are counted against limits, and arithmetic that stops at the greatest of 128
-- bits.
use Rattle.problem_form.proofs.Common.{nat_tests, ◌≡◌, cond, leb, ℕ, zero, suc, ◌+◌, ◌-◌, ◌*◌, ◌<◌, ◌≤◌, ◌^◌, min, max, arith, refl, sym, ◌∙◌, List, [], ◌∷◌, fold, ℤ, pos, negsuc, ◌-ℤ◌, unsigned_abs, int_max, flat_map, ints, int_max_is, cases_lt, le-leb, fold-append, sum_by-le-sum_by, pow-zero, pow-suc, pow-le-pow_right, positive_part, Product, Constraint, products_total, constraint_total, answered_number, positive_total, slack_range}

pub fold_flat_map : {A B C : Type 0} (f : C → B → C) (g : A → List B) (start : C) (xs : List A)
    → fold f start (flat_map g xs) ≡ fold (λ most x. fold f most (g x)) start xs
fold_flat_map f g start [] = refl
fold_flat_map f g start (x ∷ xs) =
    fold-append f start (g x) (flat_map g xs) ∙ fold_flat_map f g (fold f start (g x)) xs

-- ---- the greatest number of 128 bits is where sums and products stop

pub answered_number-plus : (a b : ℕ) → answered_number (answered_number a + answered_number b) ≡ answered_number (a + b)
answered_number-plus a b = omega arith

right_over : (m a b : ℕ) → m < b → min (a * min b m) m ≡ min (a * b) m
right_over m zero b over = omega arith
right_over m (suc a) b over = grind (arith, nat_tests)

right_capped : (m a b : ℕ) → min (a * min b m) m ≡ min (a * b) m
right_capped m a b = grind (arith, nat_tests, cases_lt, right_over)

pub answered_number-times : (a b : ℕ) → answered_number (a * answered_number b) ≡ answered_number (a * b)
answered_number-times a b = right_capped (2 ^ 128 - 1) a b

pub answered_number-product : (a b : ℕ) → answered_number (answered_number a * answered_number b) ≡ answered_number (a * b)
answered_number-product a b =
    grind (arith, nat_tests, answered_number-times (answered_number a) b, answered_number-times b a)

pub answered_number-power : (e : ℕ) → 128 ≤ e → 2 ^ 128 - 1 ≡ answered_number (2 ^ e)
answered_number-power e h =
    let more : 2 ^ 128 ≤ 2 ^ e = pow-le-pow_right {n = 2} (omega arith) h in
    omega arith

-- ---- sizes

positive_part-le : (z : ℤ) → positive_part z ≤ unsigned_abs z
positive_part-le (pos n) = omega arith
positive_part-le (negsuc n) = omega arith

-- a number that is raised to 1, where it is lower
pub positive_part-raised : (z : ℤ) → int_max z (pos 1) ≡ pos (max 1 (positive_part z))
positive_part-raised (pos n) = omega (arith, ints, int_max_is (pos n) (pos 1))
positive_part-raised (negsuc n) = omega (arith, ints, int_max_is (negsuc n) (pos 1))

pub positive_total-le : (products : List Product) → positive_total products ≤ products_total products
positive_total-le products = grind (arith, nat_tests, sum_by-le-sum_by, positive_part-le)

pub slack_range-le : (k : Constraint) → slack_range k ≤ constraint_total k
slack_range-le k =
    let most = positive_total-le k.products in
    let rest = positive_part-le (pos (positive_total k.products) -ℤ k.bound) in
    grind (arith, nat_tests, ints)

-- ---- squares

square_is : (r : ℕ) → r * r ≡ r ^ 2
square_is r = sym (rw (pow-suc, pow-suc, pow-zero) (omega arith))

-- n times the square of r, as the calls answer it
pub answered_square : (n r r' square part : ℕ) → r' ≡ r → square ≡ answered_number (r' * r')
    → part ≡ answered_number (n * square) → part ≡ answered_number (n * r ^ 2)
answered_square n r r' square part at_r at_square at_part =
    grind (arith, nat_tests, answered_number-times, square_is)

-- ---- sums of several numbers

pub answered_sum : (a b p q r : ℕ) → p ≡ answered_number a → q ≡ answered_number b → r ≡ answered_number (p + q)
    → r ≡ answered_number (a + b)
answered_sum a b p q r at_p at_q at_r =
    at_r ∙ (λ j. answered_number (at_p j + at_q j)) ∙ answered_number-plus a b

pub answered_sum_of_3 : (a b c p q r s t : ℕ) → p ≡ answered_number a → q ≡ answered_number b → r ≡ answered_number c
    → s ≡ answered_number (p + q) → t ≡ answered_number (s + r) → t ≡ answered_number (a + b + c)
answered_sum_of_3 a b c p q r s t at_p at_q at_r at_s at_t =
    answered_sum (a + b) c s r t (answered_sum a b p q s at_p at_q at_s) at_r at_t

-- ---- the pairs of a constraint

-- q is the square of what is answered for n
answered_number-squared : (n s q : ℕ) → s ≡ answered_number n → q ≡ answered_number (s * s) → q ≡ answered_number (n ^ 2)
answered_number-squared n s q at_s at_q =
    grind (arith, nat_tests, answered_number-product, square_is)

pub squared_alone : (n d s q : ℕ) → s ≡ answered_number n → q ≡ answered_number (s * s) → d ≤ 1
    → q ≡ answered_number (n ^ 2 * cond (leb d 1) 1 (4 * d ^ 2))
squared_alone n d s q at_s at_q low =
    grind (arith, nat_tests, answered_number-squared n s q at_s at_q, le-leb d 1 low)

pub squared_spread : (n d s q t four r : ℕ) → s ≡ answered_number n → q ≡ answered_number (s * s) → 1 < d
    → t ≡ d ^ 2 → four ≡ answered_number (t * 4) → r ≡ answered_number (q * four)
    → r ≡ answered_number (n ^ 2 * cond (leb d 1) 1 (4 * d ^ 2))
squared_spread n d s q t four r at_s at_q high at_t at_four at_r =
    let turned : t * 4 ≡ 4 * d ^ 2 = omega arith in
    let square = answered_number-squared n s q at_s at_q in
    grind (arith, nat_tests, answered_number-product (n ^ 2) (4 * d ^ 2))
