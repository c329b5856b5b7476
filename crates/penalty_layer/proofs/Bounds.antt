-- What the limits of a problem say of its table.
use Rattle.penalty_layer.proofs.Common.{nat_tests, ◌≡◌, ℕ, ◌+◌, ◌-◌, ◌*◌, ◌^◌, ◌≤◌, max, unsigned_abs, cond, Option, None, unwrap_or, List, [], ◌∷◌, ◌++◌, length, map, fold, count_by, append_assoc, subst, arith, is_none, sum_by, AllByRecursion, sum_by-cons, Product, Clause, ProblemContent, IsNormal, products_total, soft_weight, Counted, first_passed, limit_fault, degree, degrees, pairs, weight, penalty, reach, upper, most_degree, positive_total-le, clause_weights}
use Rattle.problem_form.specs.declared.limits.Normal.TheVariants as normals

-- ---- no limit is passed

-- where no number passes its limit, the first does not, and no later one
pub within_first : (c : Counted) (cs : List Counted) → first_passed (c ∷ cs) ≡ None
    → (c.number ≤ c.most) × (first_passed cs ≡ None)
within_first c cs none = grind (arith, nat_tests)

-- the counted numbers are within their limits
pub record IsWithin (p : ProblemContent) : Type 0 where
  pub variables : p.variables ≤ 2 ^ 20
  pub degree : degree p ≤ most_degree
  pub pairs : pairs normals.Literal p ≤ 2 ^ 24
  pub weight : weight p ≤ 2 ^ 64 - 1

pub within_limits : (p : ProblemContent) → limit_fault normals.Literal p ≡ None → IsWithin p
within_limits p none = record {
  variables = grind (arith, nat_tests, within_first);
  degree = grind (arith, nat_tests, within_first);
  pairs = grind (arith, nat_tests, within_first);
  weight = grind (arith, nat_tests, within_first);
}

-- ---- degrees

-- no number is above the greatest of all
pub most_of : (start : ℕ) (ns : List ℕ) → (start ≤ fold max start ns) × AllByRecursion (λ n. n ≤ fold max start ns) ns
most_of start [] = (omega arith, tt)
most_of start (n ∷ ns) = grind (arith, nat_tests, most_of (max start n) ns)

abbrev pub AtMost : {X : Type 0} → (X → ℕ) → ℕ → List X → Type 0
AtMost f most xs = AllByRecursion (λ x. f x ≤ most) xs

pub of_map : {X : Type 0} (f : X → ℕ) (most : ℕ) (xs : List X) (ns : List ℕ)
    → AllByRecursion (λ n. n ≤ most) (map f xs ++ ns)
    → AtMost f most xs × AllByRecursion (λ n. n ≤ most) ns
of_map f most [] ns h = (tt, h)
of_map f most (x ∷ xs) ns h = let rest = of_map f most xs ns h.1 in ((h.0, rest.0), rest.1)

pub raised : {X : Type 0} (f : X → ℕ) (low high : ℕ) (xs : List X) → low ≤ high → AtMost f low xs
    → AtMost f high xs
raised f low high [] le h = tt
raised f low high (x ∷ xs) le h = let first = h.0 in (omega arith, raised f low high xs le h.1)

-- no product and no clause has more literals than this
pub degrees_within : (p : ProblemContent) (most : ℕ) → degree p ≤ most
    → AtMost (λ (t : Product). length t.literals) most p.objective
    × AtMost (λ (c : Clause). length c.literals) most p.clauses
degrees_within p most h =
    let regrouped = append_assoc (map (λ (t : Product). length t.literals) p.objective) (map (λ (c : Clause). length c.literals) p.clauses) _ in
    let all = subst (AllByRecursion (λ n. n ≤ degree p)) regrouped (most_of 0 (degrees p)).1 in
    let products = of_map (λ (t : Product). length t.literals) (degree p) p.objective _ all in
    let clauses = of_map (λ (c : Clause). length c.literals) (degree p) p.clauses _ products.1 in
    (raised _ _ _ p.objective h products.0, raised _ _ _ p.clauses h clauses.0)

-- ---- weights

soft_or_penalty : (n : ℕ) (w : Option ℕ) → unwrap_or w n ≡ unwrap_or w 0 + n * cond (is_none w) 1 0
soft_or_penalty n w = grind (arith, nat_tests)

-- the soft weights, and the penalty for each hard clause
pub clause_weights_are : (n : ℕ) (cs : List Clause)
    → clause_weights n cs ≡ sum_by soft_weight cs + n * count_by (λ c. is_none c.weight) cs
clause_weights_are n [] = omega arith
clause_weights_are n (c ∷ cs) =
    let rest0 = clause_weights_are n cs in simp sum_by-cons (grind (arith, nat_tests, soft_or_penalty))

-- the sizes of what is added are within the counted weight
pub weights_within : (p : ProblemContent)
    → unsigned_abs p.constant + products_total p.objective + clause_weights (penalty p) p.clauses ≤ weight p
weights_within p = omega (arith, clause_weights_are (penalty p) p.clauses)

-- with the squares of the constraints they still are
pub all_within : (p : ProblemContent)
    → unsigned_abs p.constant + products_total p.objective + clause_weights (penalty p) p.clauses
    + sum_by (λ k. penalty p * reach k ^ 2) p.constraints ≤ weight p
all_within p = omega (arith, clause_weights_are (penalty p) p.clauses)

pub upper_within : (p : ProblemContent) → IsNormal p → weight p ≤ 2 ^ 64 → unsigned_abs (upper p) ≤ 2 ^ 64
upper_within p normal small = grind (arith, nat_tests, positive_total-le p.objective)
