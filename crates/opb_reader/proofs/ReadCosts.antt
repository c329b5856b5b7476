-- What the problem of a text costs: what the text costs, constraint by constraint.
use Rattle.opb_reader.proofs.Common.{nat_tests, ◌≡◌, Bool, not, ◌||◌, arith, refl, ◌∙◌, List, [], ◌∷◌, map, ℤ, pos, ◌+ℤ◌, neg_ℤ, int_lt, int_le, if◌then◌else◌, list_any, ints, if_so, Product, all_hold, sum_of, negated, fails, problem_cost, normal_form-cost, Operator, Listed, Opb, stands, is_met, is_broken, opb_cost, compared, constraint_of, problem_of, ReadingKeepsCosts}
use Rattle.base.specs.declared.costs.Cost.TheVariants.{Whole, Infinite}

value-negated : (b : Bool) (c : ℤ) → if_so b (neg_ℤ c) ≡ neg_ℤ (if_so b c)
value-negated b c = grind (arith, nat_tests, ints)

sum_of-negated : (x : List Bool) (ts : List Product)
    → sum_of x (map negated ts) ≡ neg_ℤ (sum_of x ts)
sum_of-negated x [] = refl
sum_of-negated x (t ∷ ts) =
    omega (arith, ints, value-negated (all_hold x t.literals) t.coefficient, sum_of-negated x ts)

below : (a b : ℤ) → int_lt a b ≡ not (int_le b a)
below a b = grind (arith, ints)

below-negated : (a b : ℤ) → int_lt (neg_ℤ a) (neg_ℤ b) ≡ not (int_le a b)
below-negated a b = grind (arith, ints)

fails-compared : (x : List Bool) (operator : Operator) (ts : List Product) (bound : ℤ)
    → fails x (compared operator ts bound) ≡ not (stands operator (sum_of x ts) bound)
fails-compared x operator ts bound =
    grind (arith, nat_tests, ints, below, sum_of-negated, below-negated)

fails-constraints : (x : List Bool) (ks : List Listed)
    → list_any (fails x) (map constraint_of ks) ≡ list_any (λ k. not (is_met x k)) ks
fails-constraints x [] = refl
fails-constraints x (k ∷ ks) =
    λ i. fails-compared x k.operator k.terms k.bound i || fails-constraints x ks i

problem_of-cost : (s : Opb) (x : List Bool) → problem_cost (problem_of s) x ≡ opb_cost s x
problem_of-cost s x =
    let sum = sum_of x s.objective in
    let whole : pos 0 +ℤ sum +ℤ pos 0 ≡ sum = omega (arith, ints) in
    let broken : list_any (fails x) (map constraint_of s.constraints) ≡ is_broken s x =
    fails-constraints x s.constraints in
    λ i. if broken i then Infinite else Whole (whole i)

pub reading_keeps_costs : ReadingKeepsCosts
reading_keeps_costs s x = normal_form-cost (problem_of s) x ∙ problem_of-cost s x
