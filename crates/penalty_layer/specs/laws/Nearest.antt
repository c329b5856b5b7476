-- Squares: they are not negative, and the clamped slack leaves the least. Nothing
-- here has to be believed.
use Rattle.std.specs.Prelude.{◌≡◌, ◌*◌, ◌^◌, ◌≤◌, ◌-ℤ◌, ◌*ℤ◌, ◌≤ℤ◌}
use Rattle.penalty_layer.specs.laws.Common.{nat_tests, ℕ, arith, ap, ◌∙◌, pow-succ', pow-zero, unsigned_abs, ℤ, pos, negsuc, ints, mul-le, multiply_out, integers, times-le, clamped}

-- no square is below 0
square-not_negative : (a : ℤ) → pos 0 ≤ℤ (a *ℤ a)
square-not_negative a = grind (arith, ints)

-- of two numbers from 0 up, the greater one has the greater square
square-le : (a b : ℤ) → pos 0 ≤ℤ a → a ≤ℤ b → (a *ℤ a) ≤ℤ (b *ℤ b)
square-le (pos a) (pos b) p q =
    omega (arith, ints, mul-le a a b b (omega (arith, ints)) (omega (arith, ints)))
square-le (pos a) (negsuc b) p q = omega (arith, ints)
square-le (negsuc a) b p q = omega (arith, ints)

-- a difference may be turned round before it is squared
turned : (a b : ℤ) → (b -ℤ a) *ℤ (b -ℤ a) ≡ (a -ℤ b) *ℤ (a -ℤ b)
turned a b = simp multiply_out (omega (arith, integers))

-- Of all values within r, the clamped one leaves the least square. Values above or below the range
-- leave the distance to its nearer end, which no other value makes less.
pub clamped-least : (r : ℕ) (s : ℤ) (v : ℕ) → v ≤ r
    → ((s -ℤ pos (clamped r s)) *ℤ (s -ℤ pos (clamped r s)))
    ≤ℤ ((s -ℤ pos v) *ℤ (s -ℤ pos v))
clamped-least r (negsuc n) v h =
    let le =
    square-le (pos 0 -ℤ negsuc n) (pos v -ℤ negsuc n) (omega (arith, ints)) (omega (arith, ints)) in
    omega (arith, ints, turned (negsuc n) (pos 0), turned (negsuc n) (pos v), le)
clamped-least r (pos n) v h =
    let none = square-not_negative (pos n -ℤ pos v) in
    let far = square-le (pos n -ℤ pos r) (pos n -ℤ pos v) in
    grind (arith, nat_tests, ints)

-- a clamped value is at most r
pub clamped-le : (r : ℕ) (s : ℤ) → clamped r s ≤ r
clamped-le r s = grind arith

-- within 0 to r nothing is clamped
pub clamped-same : (r : ℕ) (s : ℤ) → pos 0 ≤ℤ s → s ≤ℤ pos r → pos (clamped r s) ≡ s
clamped-same r s low high = grind (arith, ints)

-- ---- n times a square

-- a square is a product
pub square_is : (n : ℕ) → n ^ 2 ≡ n * n
square_is n =
    pow-succ' n 1 ∙ ap (λ m. n * m) (pow-succ' n 0 ∙ ap (λ m. n * m) (pow-zero n) ∙ omega arith)

-- a square is that of the size
pub square_of_size : (z : ℤ) → z *ℤ z ≡ pos (unsigned_abs z * unsigned_abs z)
square_of_size (pos n) = omega (arith, ints)
square_of_size (negsuc n) = omega (arith, ints)

-- n times a square is not below 0
pub square_not_below : (n : ℕ) (v : ℤ) → pos 0 ≤ℤ (pos n *ℤ (v *ℤ v))
square_not_below n v =
    omega (arith, ints, times-le (pos n) (pos 0) (v *ℤ v) (omega (arith, ints)) (square-not_negative v))
