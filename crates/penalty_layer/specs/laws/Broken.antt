-- What the squares of constraints add: nothing below 0, at least what is missing, 0 where all slacks
-- are right, and the least where they are clamped. Nothing here has to be believed.
--
-- A square is a whole number that is not negative, so it is 0 or at least 1, and n times it is 0 or
-- at least n.
use Rattle.std.specs.Prelude.{◌≡◌, ◌≤◌, ◌^◌, ◌*◌, ◌+◌, ◌∷◌, ◌++◌, ◌+ℤ◌, ◌-ℤ◌, ◌*ℤ◌, ◌≤ℤ◌}
use Rattle.penalty_layer.specs.laws.Common.{ℕ, Bool, true, false, refl, sym, ap, ◌∙◌, subst, arith, List, [], length, append_assoc, ℤ, pos, flat_map, list_any, ints, length-append, Decides-int_eq, positive_part, times-le, total_by-append, Constraint, sum_of, fails, slack_range, slack_bits, positive_total, term_cost, terms_cost, slack_weights, slack_value, clamped, square_terms, slack_form, constraint_terms, slack_of, slack_state, excess, nat_tests, or_parts, All, Agrees, All-head, All-tail, mul-le, unsigned_abs, own, rest, missing, constraint_prices, some_whole}
use Rattle.penalty_layer.specs.laws.Violations.{sum_upper}
use Rattle.penalty_layer.specs.laws.SlackValues.{slack_value-le, slack_reaches, HasBits-middle, length-value_bits}
use Rattle.penalty_layer.specs.laws.SquareCosts.{constraint-cost}
use Rattle.penalty_layer.specs.laws.Nearest.{square_is, square_of_size, square_not_below, clamped-least, clamped-le, clamped-same}
use Rattle.penalty_layer.specs.laws.Agreement.{IsNormalConstraint, sum_of-agrees}

-- What all squares cost, with the slack bits numbered on from a first node. Each is the penalty of
-- its constraint, its own or n, times the square of what the constraint is off by.
abbrev pub squares_cost : List Bool → ℕ → List ℕ → ℕ → List Constraint → ℤ
squares_cost y n ns first [] = pos 0
squares_cost y n ns first (k ∷ ks) =
    pos (own n ns) *ℤ (excess y first k *ℤ excess y first k)
    +ℤ squares_cost y n (rest ns) (first + slack_bits k) ks

-- the terms of all constraints cost what their squares do
pub constraint_terms-cost : (y : List Bool) (n : ℕ) (ns : List ℕ) (first : ℕ) (ks : List Constraint)
    → terms_cost y (constraint_terms n ns first ks) ≡ squares_cost y n ns first ks
constraint_terms-cost y n ns first [] = refl
constraint_terms-cost y n ns first (k ∷ ks) =
    total_by-append (term_cost y) (square_terms (own n ns) (slack_form first k))
    (constraint_terms n (rest ns) (first + slack_bits k) ks)
    ∙ (λ i. constraint-cost y (own n ns) first k i
    +ℤ constraint_terms-cost y n (rest ns) (first + slack_bits k) ks i)

-- The squares never cost less than 0. So slack bits never make a state cheaper than its variables
-- alone.
pub squares_not_negative : (y : List Bool) (n : ℕ) (ns : List ℕ) (first : ℕ) (ks : List Constraint)
    → pos 0 ≤ℤ squares_cost y n ns first ks
squares_not_negative y n ns first [] = omega (arith, ints)
squares_not_negative y n ns first (k ∷ ks) =
    omega (
      arith,
      ints,
      square_not_below (own n ns) (excess y first k),
      squares_not_negative y n (rest ns) (first + slack_bits k) ks,
    )

-- ---- what is missing

-- the square of a size, for a lesser size
size_square-le : (m : ℕ) (z : ℤ) → m ≤ unsigned_abs z → pos (m ^ 2) ≤ℤ (z *ℤ z)
size_square-le m z h =
    let less = mul-le m m (unsigned_abs z) (unsigned_abs z) h h in
    let power = square_is m in
    let size : z *ℤ z ≡ pos (unsigned_abs z * unsigned_abs z) = square_of_size z in
    omega (arith, ints, less, power, size)

-- No slack within the range makes up for what is missing. So in each state a constraint costs at
-- least its penalty times the square of that.
missing_in_square : (y : List Bool) (n first : ℕ) (k : Constraint)
    → pos (n * missing y k ^ 2) ≤ℤ (pos n *ℤ (excess y first k *ℤ excess y first k))
missing_in_square y n first k =
    let low = slack_value-le y first (slack_range k) in
    let short : missing y k ≤ unsigned_abs (excess y first k) = grind (arith, nat_tests, ints) in
    let less = size_square-le (missing y k) (excess y first k) short in
    let scaled = times-le (pos n) (pos (missing y k ^ 2)) (excess y first k *ℤ excess y first k) (omega (arith, ints)) less in
    omega (arith, ints, scaled)

-- so the squares cost at least what is missing
pub squares_missing : (y : List Bool) (n : ℕ) (ns : List ℕ) (first : ℕ) (ks : List Constraint)
    → constraint_prices y n ns ks ≤ℤ squares_cost y n ns first ks
squares_missing y n ns first [] = omega (arith, ints)
squares_missing y n ns first (k ∷ ks) =
    omega (
      arith,
      ints,
      missing_in_square y (own n ns) first k,
      squares_missing y n (rest ns) (first + slack_bits k) ks,
    )

-- what is missing adds nothing negative
pub prices_not_negative : (y : List Bool) (n : ℕ) (ns : List ℕ) (ks : List Constraint)
    → pos 0 ≤ℤ constraint_prices y n ns ks
prices_not_negative y n ns [] = omega (arith, ints)
prices_not_negative y n ns (k ∷ ks) = omega (arith, ints, prices_not_negative y n (rest ns) ks)

-- something is missing where a constraint fails, and nothing elsewhere
fails_by : (y : List Bool) (k : Constraint) → fails y k ≡ true → 1 ≤ missing y k
fails_by y k broken =
    let equal = Decides-int_eq (sum_of y k.products) k.bound in grind (arith, nat_tests, ints)

holds_by : (y : List Bool) (k : Constraint) → fails y k ≡ false → missing y k ≡ 0
holds_by y k kept =
    let equal = Decides-int_eq (sum_of y k.products) k.bound in grind (arith, nat_tests, ints)

-- n times the square of 1 or more is at least n
pub times_square : (n m : ℕ) → 1 ≤ m → n ≤ n * m ^ 2
times_square n m h =
    let one = mul-le 1 1 m m h h in
    let power = square_is m in
    omega (arith, mul-le n 1 n (m ^ 2) (omega arith) (omega (arith, one, power)))

-- where a constraint is broken that has the penalty of the whole, what is missing adds at least that
pub prices_at_least : (y : List Bool) (n : ℕ) (ns : List ℕ) (ks : List Constraint)
    → some_whole (fails y) n ns ks ≡ true → pos n ≤ℤ constraint_prices y n ns ks
prices_at_least y n ns [] h = cc
prices_at_least y n ns (k ∷ ks) h =
    let short = fails_by y k in
    let here = times_square (own n ns) (missing y k) in
    let low = prices_not_negative y n (rest ns) ks in
    let others = prices_at_least y n (rest ns) ks in
    grind (arith, nat_tests, ints)

-- where none is broken, nothing is missing
pub prices_zero : (y : List Bool) (n : ℕ) (ns : List ℕ) (ks : List Constraint)
    → list_any (fails y) ks ≡ false → constraint_prices y n ns ks ≡ pos 0
prices_zero y n ns [] h = refl
prices_zero y n ns (k ∷ ks) h =
    let parts = or_parts (fails y k) (list_any (fails y) ks) h in
    let none = holds_by y k parts.0 in
    let nothing : own n ns * missing y k ^ 2 ≡ 0 = ap (λ m. own n ns * m ^ 2) none ∙ omega arith in
    omega (arith, ints, ap pos nothing, prices_zero y n (rest ns) ks parts.1)

-- ---- where the slacks are right

-- Each slack has the clamped value under the assignment x. It is the value that is nearest to what
-- the sum has above the bound, among those that the bits reach.
abbrev pub AreClamped : List Bool → List Bool → ℕ → List Constraint → Type 0
AreClamped x y first [] = Unit {0}
AreClamped x y first (k ∷ ks) =
    (slack_value y first (slack_weights (slack_range k)) ≡ slack_of x k)
    × AreClamped x y (first + slack_bits k) ks

-- an integer is at most its positive part
positive-le : (z : ℤ) → z ≤ℤ pos (positive_part z)
positive-le z = grind (arith, ints)

-- a constraint that holds has its sum above the bound by no more than the range
in_range : (y : List Bool) (k : Constraint) → fails y k ≡ false
    → (pos 0 ≤ℤ (sum_of y k.products -ℤ k.bound))
    × ((sum_of y k.products -ℤ k.bound) ≤ℤ pos (slack_range k))
in_range y k kept =
    let equal = Decides-int_eq (sum_of y k.products) k.bound in
    let high = sum_upper y k.products in
    let most = positive-le (pos (positive_total k.products) -ℤ k.bound) in
    (grind (arith, nat_tests, ints), grind (arith, nat_tests, ints))

-- the state y has the sums of the assignment x, and no constraint fails: with each slack clamped,
-- all squares are 0
pub squares_zero : (x y : List Bool) (n : ℕ) (ns : List ℕ) (m first : ℕ) (ks : List Constraint)
    → Agrees m x y → All (IsNormalConstraint m) ks → list_any (fails y) ks ≡ false
    → AreClamped x y first ks → squares_cost y n ns first ks ≡ pos 0
squares_zero x y n ns m first [] same normal kept right = refl
squares_zero x y n ns m first (k ∷ ks) same normal kept right =
    let parts = or_parts (fails y k) (list_any (fails y) ks) kept in
    let range = in_range y k parts.0 in
    let d = sum_of y k.products -ℤ k.bound in
    let r = slack_range k in
    let value : slack_value y first (slack_weights r) ≡ clamped r d =
    right.0 ∙ ap (λ s. clamped r (s -ℤ k.bound)) (sum_of-agrees m x y k.products same (All-head (IsNormalConstraint m) k ks normal)) in
    let none : excess y first k ≡ pos 0 =
    omega (arith, ints, ap pos value, clamped-same r d range.0 range.1) in
    let others = squares_zero x y n (rest ns) m (first + slack_bits k) ks same (All-tail (IsNormalConstraint m) k ks normal) parts.1 right.1 in
    rw (none, others) (omega (arith, ints))

-- no state with the same variables has lesser squares than one whose slacks are clamped
pub squares_least : (x y z : List Bool) (n : ℕ) (ns : List ℕ) (m first : ℕ) (ks : List Constraint)
    → Agrees m x y → Agrees m x z → All (IsNormalConstraint m) ks → AreClamped x y first ks
    → squares_cost y n ns first ks ≤ℤ squares_cost z n ns first ks
squares_least x y z n ns m first [] same_y same_z normal right = omega (arith, ints)
squares_least x y z n ns m first (k ∷ ks) same_y same_z normal right =
    let r = slack_range k in
    let d = sum_of x k.products -ℤ k.bound in
    let v = slack_value z first (slack_weights r) in
    let products = All-head (IsNormalConstraint m) k ks normal in
    let sum_y : sum_of y k.products ≡ sum_of x k.products =
    sym (sum_of-agrees m x y k.products same_y products) in
    let sum_z : sum_of z k.products ≡ sum_of x k.products =
    sym (sum_of-agrees m x z k.products same_z products) in
    let at_y : excess y first k ≡ d -ℤ pos (clamped r d) =
    λ i. (sum_y i -ℤ k.bound) -ℤ pos (right.0 i) in
    let at_z : excess z first k ≡ d -ℤ pos v = λ i. (sum_z i -ℤ k.bound) -ℤ pos v in
    let less =
    times-le (pos (own n ns)) ((d -ℤ pos (clamped r d)) *ℤ (d -ℤ pos (clamped r d))) ((d -ℤ pos v) *ℤ (d -ℤ pos v))
    (omega (arith, ints)) (clamped-least r d v (slack_value-le z first r)) in
    omega (
      arith,
      ints,
      ap (λ e. pos (own n ns) *ℤ (e *ℤ e)) at_y,
      ap (λ e. pos (own n ns) *ℤ (e *ℤ e)) at_z,
      less,
      squares_least x y z n (rest ns) m (first + slack_bits k) ks same_y same_z (All-tail (IsNormalConstraint m) k ks normal) right.1,
    )

-- a product of natural numbers is one of whole numbers
times_of : (a b : ℕ) → pos a *ℤ pos b ≡ pos (a * b)
times_of a b = omega (arith, ints)

-- what a clamped slack leaves is as much as is missing
clamped_missing : (x : List Bool) (k : Constraint)
    → unsigned_abs ((sum_of x k.products -ℤ k.bound) -ℤ pos (clamped (slack_range k) (sum_of x k.products -ℤ k.bound)))
    ≡ missing x k
clamped_missing x k =
    let high = sum_upper x k.products in
    let most = positive-le (pos (positive_total k.products) -ℤ k.bound) in
    grind (arith, nat_tests, ints)

-- so clamped slacks leave the squares of what is missing
pub squares_clamped : (x y : List Bool) (n : ℕ) (ns : List ℕ) (m first : ℕ) (ks : List Constraint)
    → Agrees m x y → All (IsNormalConstraint m) ks → AreClamped x y first ks
    → squares_cost y n ns first ks ≡ constraint_prices x n ns ks
squares_clamped x y n ns m first [] same normal right = refl
squares_clamped x y n ns m first (k ∷ ks) same normal right =
    let r = slack_range k in
    let d = sum_of x k.products -ℤ k.bound in
    let sum_y : sum_of y k.products ≡ sum_of x k.products =
    sym (sum_of-agrees m x y k.products same (All-head (IsNormalConstraint m) k ks normal)) in
    let at_y : excess y first k ≡ d -ℤ pos (clamped r d) =
    λ i. (sum_y i -ℤ k.bound) -ℤ pos (right.0 i) in
    let size = ap unsigned_abs at_y ∙ clamped_missing x k in
    let square : excess y first k *ℤ excess y first k ≡ pos (missing x k ^ 2) =
    square_of_size (excess y first k) ∙ (λ i. pos (size i * size i)) ∙ ap pos (sym (square_is (missing x k))) in
    let here = ap (λ e. pos (own n ns) *ℤ e) square ∙ times_of (own n ns) (missing x k ^ 2) in
    let others = squares_clamped x y n (rest ns) m (first + slack_bits k) ks same
    (All-tail (IsNormalConstraint m) k ks normal) right.1 in
    λ i. here i +ℤ others i

-- ---- the extension has them

-- an assignment's slack bits give each slack the clamped value, whatever bits stand before them
pub extension_clamped : (x xs : List Bool) (ks : List Constraint)
    → AreClamped x (xs ++ flat_map (slack_state x) ks) (length xs) ks
extension_clamped x xs [] = tt
extension_clamped x xs (k ∷ ks) =
    let bits = slack_state x k in
    let rest = flat_map (slack_state x) ks in
    let r = slack_range k in
    let d = sum_of x k.products -ℤ k.bound in
    let y = xs ++ (bits ++ rest) in
    let after : AreClamped x ((xs ++ bits) ++ rest) (length (xs ++ bits)) ks =
    extension_clamped x (xs ++ bits) ks in
    let place : length (xs ++ bits) ≡ length xs + slack_bits k =
    omega (arith, length-append xs bits, length-value_bits r (clamped r d)) in
    let moved = subst (λ z. AreClamped x z (length (xs ++ bits)) ks) (append_assoc xs bits rest) after in (
      slack_reaches y (length xs) r (clamped r d) (clamped-le r d) (HasBits-middle xs bits rest),
      subst (λ f. AreClamped x y f ks) place moved,
    )
