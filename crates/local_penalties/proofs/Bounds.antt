-- How large prices are where a problem is within its limits.
use Rattle.local_penalties.proofs.Common.{◌≡◌, ℕ, ◌+◌, ◌-◌, ◌*◌, ◌<◌, ◌≤◌, ◌^◌, sym, refl, arith, nat_tests, ints, List, [], ◌∷◌, length, All, All-head, All-tail, All-cons, All-weaker, cond, None, sum_by, sum_by-cons, nat_le, nat_lt, ltb, Literal, Product, Clause, Constraint, Option, ProblemContent, hurts_clause, hurts_constraint, meets, moves, most_missing, far, whole_penalty, charge, clause_charges, constraint_charges, product_rise, soft_rise, rise, own, rest, Bool, true, false, positive_total-le, constraint_total, unsigned_abs}
use Rattle.problem_form.proofs.Common.{clause_pairs, constraint_pairs, pairs, weight, cost_size, penalty, reach, limit_fault, summands, constraint_degree, soft_weight, clause_complements, pow-suc, pow-zero, most_complements, slack_bits, All-nil, IsSound, is_none, count_by}
use Rattle.problem_form.specs.Limits.{factor}
use Rattle.problem_form.specs.declared.limits.Normal.{Normal}
use Rattle.problem_form.specs.declared.limits.Normal.TheVariants as normals
use Rattle.std.proofs.Math.Nat.{one-le-pow, mul-le-mul_left, mul-le-mul_right}
use Rattle.local_penalties.proofs.LocalSteps.{negative_total-le}
use Rattle.local_penalties.specs.Kept.{IsWithinLimits}
use Rattle.local_penalties.proofs.Common.{Some}

pub record IsWithin (normal : Normal) (p : ProblemContent) : Type 0 where
  pub variables : p.variables ≤ 2 ^ 20
  pub pairs : pairs normal p ≤ 2 ^ 24
  pub weight : weight p ≤ 2 ^ 64 - 1

pub within_limits : (normal : Normal) (p : ProblemContent) → limit_fault normal p ≡ None → IsWithin normal p
within_limits normal p none = grind (arith, nat_tests)

-- ---- pairs

power-above : (n : ℕ) → 1 ≤ 2 ^ n
power-above n = omega (arith, one-le-pow n 2 (omega arith))

factor-above : (normal : Normal) (n : ℕ) → 1 ≤ factor normal n
factor-above normals.Literal n = omega arith
factor-above normals.Multilinear n = power-above n

product-above : (a b : ℕ) → 1 ≤ a → 1 ≤ b → 1 ≤ a * b
product-above a b h k = omega (arith, mul-le-mul_left a k)

pub square_is : (r : ℕ) → r * r ≡ r ^ 2
square_is r = sym (rw (pow-suc, pow-suc, pow-zero) (omega arith))

square-above : (a : ℕ) → 1 ≤ a → 1 ≤ a ^ 2
square-above a h =
    let square = square_is a in
    omega (arith, square, product-above a a h h)

hurts-filled : (c : Clause) (ls : List Literal) (l : Literal) → ls ≡ c.literals → hurts_clause c l ≡ true → 1 ≤ length ls
hurts-filled c [] l e h = grind (arith, nat_tests)
hurts-filled c (m ∷ ls) l e h = grind arith

hurts-pairs : (normal : Normal) (c : Clause) (l : Literal) → hurts_clause c l ≡ true → 1 ≤ clause_pairs normal c
hurts-pairs normal c l hurts =
    product-above (factor normal (clause_complements c)) (length c.literals ^ 2)
    (factor-above normal (clause_complements c)) (square-above (length c.literals) (hurts-filled c c.literals l refl hurts))

spread-above : (b : Bool) (d : ℕ) → (b ≡ false → 1 ≤ d) → 1 ≤ cond b 1 (4 * d ^ 2)
spread-above true d h = omega arith
spread-above false d h = omega (arith, square-above d (h refl))

degree-above : (d : ℕ) → nat_le d 1 ≡ false → 1 ≤ d
degree-above d h = grind (arith, nat_tests)

constraint-above : (normal : Normal) (k : Constraint) → 1 ≤ constraint_pairs normal k
constraint-above normal k =
    let some : 1 ≤ summands normal k =
    product-above (factor normal (most_complements k)) (length k.products + slack_bits k + 1)
    (factor-above normal (most_complements k)) (omega arith) in
    product-above (summands normal k ^ 2) _ (square-above (summands normal k) some)
    (spread-above (nat_le (constraint_degree k) 1) (constraint_degree k) (degree-above (constraint_degree k)))

-- ---- charges

charge-below : (b : Bool) (m w q most : ℕ) → (b ≡ true → m ≤ w) → w * q ≤ most → cond b (m * q) most ≤ most
charge-below true m w q most less small = omega (arith, mul-le-mul_right q (less refl))
charge-below false m w q most less small = omega arith

is-below : (m w : ℕ) → nat_lt m w ≡ true → m ≤ w
is-below m w h = grind (arith, nat_tests)

charge-le : (w m missing : ℕ) → w * missing ^ 2 ≤ far → charge w m missing ≤ far
charge-le w m missing small = charge-below (nat_lt m w) m w (missing ^ 2) far (is-below m w) small

share-le : (b : Bool) (x n pairs : ℕ) → x ≤ n → (b ≡ true → 1 ≤ pairs) → cond b x 0 ≤ n * pairs
share-le true x n pairs small some = omega (arith, mul-le-mul_left n (some refl))
share-le false x n pairs small some = omega arith

shares-le : (n a b x y s : ℕ) → x ≤ n * a → y ≤ n * b → s ≡ a + b → x + y ≤ n * s
shares-le n a b x y s h k e = rw e (omega (arith, h, k))

pub clause_charges-le : (normal : Normal) (w : ℕ) (ns : List ℕ) (cs : List Clause) (l : Literal)
    → w ≤ far → clause_charges w ns cs l ≤ far * sum_by (clause_pairs normal) cs
clause_charges-le normal w ns [] l small = omega arith
clause_charges-le normal w ns (c ∷ cs) l small =
    shares-le far (clause_pairs normal c) _ _ _ _
    (share-le (hurts_clause c l) _ far (clause_pairs normal c) (charge-le w (own w ns) 1 (omega (arith, small))) (hurts-pairs normal c l))
    (clause_charges-le normal w (rest ns) cs l small) (sum_by-cons (clause_pairs normal) c cs)

pub constraint_charges-le : (normal : Normal) (w : ℕ) (ns : List ℕ) (ks : List Constraint) (l : Literal)
    → All (λ k. w * most_missing k ^ 2 ≤ far) ks
    → constraint_charges w ns ks l ≤ far * sum_by (constraint_pairs normal) ks
constraint_charges-le normal w ns [] l small = omega arith
constraint_charges-le normal w ns (k ∷ ks) l small =
    shares-le far (constraint_pairs normal k) _ _ _ _
    (share-le (hurts_constraint k l) _ far (constraint_pairs normal k)
    (charge-le w (own w ns) (most_missing k) (All-head (λ (j : Constraint). w * most_missing j ^ 2 ≤ far) k ks small))
    (λ _. constraint-above normal k))
    (constraint_charges-le normal w (rest ns) ks l (All-tail (λ (j : Constraint). w * most_missing j ^ 2 ≤ far) k ks small))
    (sum_by-cons (constraint_pairs normal) k ks)

-- ---- rises

sums-le : {X : Type 0} (f g : X → ℕ) (xs : List X) → ((x : X) → f x ≤ g x) → sum_by f xs ≤ sum_by g xs
sums-le f g [] le = omega arith
sums-le f g (x ∷ xs) le = omega (arith, le x, sums-le f g xs le, sum_by-cons f x xs, sum_by-cons g x xs)

cond-le : (b : Bool) (n : ℕ) → cond b n 0 ≤ n
cond-le true n = omega arith
cond-le false n = omega arith

pub rise-le : (p : ProblemContent) (l : Literal) → rise p l ≤ cost_size p
rise-le p l =
    let products = sums-le (product_rise l) (λ (t : Product). unsigned_abs t.coefficient) p.objective (λ t. cond-le (moves true t l) (unsigned_abs t.coefficient)) in
    let clauses = sums-le (soft_rise l) soft_weight p.clauses (λ c. cond-le (meets true c.literals l) (soft_weight c)) in
    omega (arith, products, clauses)

-- ---- what can be missing

pub most_missing-le : (k : Constraint) → most_missing k ≤ reach k
most_missing-le k =
    let high = positive_total-le k.products in
    let low = negative_total-le k.products in
    grind (arith, nat_tests, ints)

pub square-mono : (a b : ℕ) → a ≤ b → a ^ 2 ≤ b ^ 2
square-mono a b h =
    let sa = square_is a in
    let sb = square_is b in
    omega (arith, sa, sb, mul-le-mul_left a h, mul-le-mul_right b h)

root-below : (b : Bool) (r n : ℕ) → ltb r n ≡ b → r ^ 2 < n ^ 2 → r < n
root-below true r n e h = grind (arith, nat_tests)
root-below false r n e h =
    let above : n ≤ r = grind (arith, nat_tests) in
    absurd (omega (arith, square-mono n r above, h))

pub root : (r n : ℕ) → r ^ 2 < n ^ 2 → r < n
root r n h = root-below (ltb r n) r n refl h

all-le : {X : Type 0} (f : X → ℕ) (most : ℕ) (xs : List X) → sum_by f xs ≤ most → All (λ x. f x ≤ most) xs
all-le f most [] h = All-nil (λ x. f x ≤ most)
all-le f most (x ∷ xs) h =
    let sum = sum_by-cons f x xs in
    All-cons (λ y. f y ≤ most) x xs (omega (arith, sum, h)) (all-le f most xs (omega (arith, sum, h)))

-- ---- the whole

-- what is known of a problem within its limits
pub record Facts (p : ProblemContent) : Type 0 where
  pub variables : p.variables ≤ 2 ^ 20
  pub totals : All (λ k. constraint_total k < 2 ^ 100) p.constraints
  pub missing : All (λ k. most_missing k < 2 ^ 32) p.constraints
  pub rises : (l : Literal) → rise p l < 2 ^ 65
  pub clauses : (ns : List ℕ) (l : Literal) → clause_charges (whole_penalty p) ns p.clauses l < 2 ^ 90
  pub constraints : (ns : List ℕ) (l : Literal) → constraint_charges (whole_penalty p) ns p.constraints l < 2 ^ 90
  pub scaled : All (λ k. whole_penalty p * most_missing k ^ 2 ≤ far) p.constraints
  pub squares : All (λ k. penalty p * reach k ^ 2 ≤ 2 ^ 64 - 1) p.constraints
  pub hard : penalty p * count_by (λ c. is_none c.weight) p.clauses ≤ 2 ^ 64 - 1

penalty-above : (p : ProblemContent) → 1 ≤ penalty p
penalty-above p = cases p.most
  where
    cases : (most : Option _) → 1 ≤ penalty (record p { most = most })
    cases None = omega arith
    cases (Some n) = omega arith

reach-small : (n r : ℕ) → 1 ≤ n → n * r ^ 2 ≤ 2 ^ 64 - 1 → r < 2 ^ 32
reach-small n r some h = root r (2 ^ 32) (omega (arith, mul-le-mul_right (r ^ 2) some, h))

scaled-small : (w n m r : ℕ) → w ≤ n → m ≤ r → n * r ^ 2 ≤ 2 ^ 64 - 1 → w * m ^ 2 ≤ far
scaled-small w n m r h k small =
    omega (arith, mul-le-mul_right (m ^ 2) h, mul-le-mul_left n (square-mono m r k), small)

pub facts : (p : ProblemContent) → IsSound p → IsWithinLimits p → Facts p
facts p sound (normal, none) =
    let w = within_limits normal p none in
    let some = penalty-above p in
    let squares : All (λ k. penalty p * reach k ^ 2 ≤ 2 ^ 64 - 1) p.constraints =
    all-le (λ (k : Constraint). penalty p * reach k ^ 2) (2 ^ 64 - 1) p.constraints (omega (arith, w.weight)) in
    let least : whole_penalty p ≤ penalty p = omega arith in
    let small : whole_penalty p ≤ far = omega arith in
    let scaled : All (λ k. whole_penalty p * most_missing k ^ 2 ≤ far) p.constraints =
    All-weaker (λ (k : Constraint). penalty p * reach k ^ 2 ≤ 2 ^ 64 - 1) (λ (k : Constraint). whole_penalty p * most_missing k ^ 2 ≤ far)
    (λ k h. scaled-small (whole_penalty p) (penalty p) (most_missing k) (reach k) least (most_missing-le k) h) p.constraints squares in
    record {
      variables = w.variables;
      totals = All-weaker (λ (k : Constraint). constraint_total k ≤ 2 ^ 100 - 1) (λ (k : Constraint). constraint_total k < 2 ^ 100)
          (λ k h. omega (arith, h)) p.constraints (all-le constraint_total (2 ^ 100 - 1) p.constraints (omega (arith, sound.1)));
      missing = All-weaker (λ (k : Constraint). penalty p * reach k ^ 2 ≤ 2 ^ 64 - 1) (λ (k : Constraint). most_missing k < 2 ^ 32)
          (λ k h. omega (arith, most_missing-le k, reach-small (penalty p) (reach k) some h)) p.constraints squares;
      rises = λ l. omega (arith, rise-le p l, w.weight);
      clauses = λ ns l. omega (arith, clause_charges-le normal (whole_penalty p) ns p.clauses l small, w.pairs);
      constraints = λ ns l. omega (arith, constraint_charges-le normal (whole_penalty p) ns p.constraints l scaled, w.pairs);
      scaled = scaled;
      squares = squares;
      hard = omega (arith, w.weight);
    }
