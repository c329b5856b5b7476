-- Sums in a loop: what is summed so far, and what is left.
use Rattle.problem_form.proofs.Common.{nat_tests, ◌≡◌, ℕ, ◌+◌, ◌<◌, ◌≤◌, ◌^◌, arith, ap, ◌∙◌, List, [], ◌∷◌, ℤ, ◌+ℤ◌, unsigned_abs, sum_by, sum_by-cons, ints, total_by, size-plus, answered_number, to_z, of_z, w128}

-- the sum so far and that of what is left are the whole, and their sizes are at most so much
pub record Sums {X : Type 0} (f : X → ℤ) (size : X → ℕ) (sum : ℤ) (left : List X) (whole : ℤ) (most : ℕ) : Type 0 where
  pub so_far : sum +ℤ total_by f left ≡ whole
  pub small : unsigned_abs sum + sum_by size left ≤ most

-- one more number of 128 bits is added
pub sums_left : {X : Type 0} (f : X → ℤ) (size : X → ℕ) (left rest : List X) (x : X) (bits : ℕ)
    (part whole : ℤ) (most : ℕ) → left ≡ x ∷ rest → part ≡ f x → unsigned_abs (f x) ≤ size x
    → most < 2 ^ 100 → Sums f size (to_z w128 bits) left whole most
    → Sums f size (to_z w128 (of_z w128 (to_z w128 bits +ℤ to_z w128 (of_z w128 part)))) rest whole most
sums_left f size left rest x bits part whole most step value fits small before =
    let sizes : sum_by size left ≡ size x + sum_by size rest =
    ap (sum_by size) step ∙ sum_by-cons size x rest in
    let next : to_z w128 (of_z w128 (to_z w128 bits +ℤ to_z w128 (of_z w128 part))) ≡ to_z w128 bits +ℤ f x =
    omega (arith, ints, sizes, before.small) in
    record {
      so_far = omega (arith, ints, ap (total_by f) step, next, before.so_far);
      small = omega (arith, ints, sizes, ap unsigned_abs next, size-plus (to_z w128 bits) (f x), before.small);
    }

-- the sum so far, which stops at the greatest number, and that of what is left are the whole
pub record Answered {X : Type 0} (f : X → ℕ) (total : ℕ) (left : List X) (whole : ℕ) : Type 0 where
  pub so_far : answered_number (total + sum_by f left) ≡ answered_number whole
  pub fits : total < 2 ^ 128

pub answered_left : {X : Type 0} (f : X → ℕ) (left rest : List X) (x : X) (total part next whole : ℕ)
    → left ≡ x ∷ rest → part ≡ answered_number (f x) → next ≡ answered_number (total + part)
    → Answered f total left whole → Answered f next rest whole
answered_left f left rest x total part next whole step at_part at_next before =
    let sums : sum_by f left ≡ f x + sum_by f rest = ap (sum_by f) step ∙ sum_by-cons f x rest in
    record { so_far = omega (arith, before.so_far); fits = omega (arith, at_next) }

pub answered_end : {X : Type 0} (f : X → ℕ) (left : List X) (total whole : ℕ)
    → left ≡ [] → Answered f total left whole → total ≡ answered_number whole
answered_end f left total whole step before = grind (arith, nat_tests)

-- ---- what is left is within what all is

pub first_within : {X : Type 0} (size : X → ℕ) (left rest : List X) (x : X) (most : ℕ)
    → left ≡ x ∷ rest → sum_by size left < most → size x < most
first_within size left rest x most step before = grind (arith, nat_tests, sum_by-cons)

pub rest_within : {X : Type 0} (size : X → ℕ) (left rest : List X) (x : X) (most : ℕ)
    → left ≡ x ∷ rest → sum_by size left < most → sum_by size rest < most
rest_within size left rest x most step before = grind (arith, nat_tests, sum_by-cons)
