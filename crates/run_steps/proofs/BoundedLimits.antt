-- What passes no limit passes none where assignments may cost at most so much: the penalty is no
-- greater, and so is the weight.
use Rattle.run_steps.proofs.Common.{nat_tests, ints, ◌≡◌, ℕ, ◌+◌, ◌*◌, ◌^◌, ◌≤◌, ℤ, Option, None, ap, arith, count_by, is_none, sum_by, sum_by-le-sum_by, add-le-add, mul-le, Normal, Clause, Constraint, ProblemContent, with_most, cost_size, limit_fault, lower, penalty, penalty_above, reach, weight}

-- ---- the weight

penalty_above-le : (most : Option ℤ) (least : ℤ) (gain : ℕ) → penalty_above most least gain ≤ gain + 1
penalty_above-le most least gain = grind (arith, nat_tests, ints)

-- what the penalty adds to the weight of a problem
abbrev weight_with : ProblemContent → ℕ → ℕ
weight_with p n =
    n * count_by (λ (c : Clause). is_none c.weight) p.clauses
    + sum_by (λ (k : Constraint). n * reach k ^ 2) p.constraints

weight_with-le : (p : ProblemContent) (m n : ℕ) → m ≤ n → weight_with p m ≤ weight_with p n
weight_with-le p m n le = grind (arith, nat_tests, add-le-add, mul-le, sum_by-le-sum_by)

weight-le : (p : ProblemContent) (most : Option ℤ) → p.most ≡ None
    → weight (with_most p most) ≤ weight p
weight-le p most free =
    let own = ap (λ m. penalty_above m (lower p) (cost_size p)) free in
    let le = penalty_above-le most (lower p) (cost_size p) in
    let more = weight_with-le p (penalty (with_most p most)) (penalty p) (omega (arith, own, le)) in
    omega (arith, more)

-- ---- the limits

pub within_bounded : (normal : Normal) (p : ProblemContent) (most : Option ℤ) → p.most ≡ None
    → limit_fault normal p ≡ None → limit_fault normal (with_most p most) ≡ None
within_bounded normal p most free = grind (arith, nat_tests, ints, weight-le)
