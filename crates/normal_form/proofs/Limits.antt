-- What the limits of the multilinear form say of a problem: they are no wider than those of the
-- literal form.
use Rattle.normal_form.proofs.Common.{nat_tests, ◌≡◌, ℕ, ◌+◌, ◌-◌, ◌*◌, ◌^◌, ◌≤◌, None, List, [], ◌∷◌, ap, ◌∙◌, arith, nat_le, sum_by, mul-le-mul_right, sum_by-cons, pow-add, one_le_pow, Constraint, ProblemContent, limit_fault, degree, negations, pairs, constraint_pairs, constraint_degree, most_complements, summands, weight, most_degree, spread, square_is, Admits}
use Rattle.problem_form.specs.declared.limits.Normal.TheVariants as normals
use Rattle.penalty_layer.specs.Penalty as penalty

-- the counted numbers are within their limits
pub record IsWithin (p : ProblemContent) : Type 0 where
  pub variables : p.variables ≤ 2 ^ 20
  pub degree : degree p ≤ most_degree
  pub negations : negations normals.Multilinear p ≤ 8
  pub pairs : pairs normals.Multilinear p ≤ 2 ^ 24
  pub weight : weight p ≤ 2 ^ 64 - 1

pub within_limits : (p : ProblemContent) → limit_fault normals.Multilinear p ≡ None → IsWithin p
within_limits p none = grind (arith, nat_tests)

-- ---- pairs

-- a factor only adds to a number
factor_adds : (k n : ℕ) → 1 * n ≤ 2 ^ k * n
factor_adds k n = mul-le-mul_right n (one_le_pow k)

sums-le : {X : Type 0} (f g : X → ℕ) (xs : List X) → ((x : X) → f x ≤ g x) → sum_by f xs ≤ sum_by g xs
sums-le f g [] le = omega arith
sums-le f g (x ∷ xs) le = omega (arith, le x, sums-le f g xs le, sum_by-cons)

-- a product of two terms of a constraint has twice the complements
pub constraint_pairs-scaled : (k : Constraint) → constraint_pairs normals.Multilinear k
    ≡ 2 ^ (2 * most_complements k) * constraint_pairs normals.Literal k
constraint_pairs-scaled k =
    let m = most_complements k in
    let d = constraint_degree k in
    let q = spread (nat_le d 1) d in
    let twice : 2 * m ≡ m + m = omega arith in
    let power = ap (λ i. 2 ^ i) twice ∙ pow-add 2 m m in
    let same = ap (λ x. x * q) (square_is (summands normals.Multilinear k)) in
    let more = ap (λ x. 2 ^ (2 * m) * (x * q)) (square_is (summands normals.Literal k)) in
    let other = ap (λ x. x * (summands normals.Literal k * summands normals.Literal k * q)) power in
    omega arith

constraint_pairs-le : (k : Constraint)
    → constraint_pairs normals.Literal k ≤ constraint_pairs normals.Multilinear k
constraint_pairs-le k = grind (arith, nat_tests, constraint_pairs-scaled, factor_adds)

pairs-le : (p : ProblemContent) → pairs normals.Literal p ≤ pairs normals.Multilinear p
pairs-le p = grind (arith, nat_tests, sums-le, factor_adds, constraint_pairs-le)

-- ---- what the penalty method admits

-- with literals as they stand there are no more pairs
pub literal_within : (p : ProblemContent) → limit_fault normals.Multilinear p ≡ None
    → limit_fault normals.Literal p ≡ None
literal_within p none = grind (arith, nat_tests, within_limits p none, pairs-le p)

pub penalty_admits : (p : ProblemContent) → Admits p → penalty.Admits p
penalty_admits p admitted =
    record { normal = admitted.normal; within = literal_within p admitted.within }
