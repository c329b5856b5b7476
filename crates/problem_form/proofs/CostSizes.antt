-- Sums over products and clauses lie within the sizes of their numbers.
use Rattle.problem_form.proofs.Common.{nat_tests, ◌≡◌, ℕ, ◌+◌, ◌≤◌, Bool, true, false, arith, ap, List, ℤ, pos, ◌+ℤ◌, unsigned_abs, sum_by, list_any, sum_by-le-sum_by, total_by, if_so, size-total_by, Product, Clause, all_hold, ProblemContent, fails, fails_hard, own_cost, problem_total, product_value, sum_of, is_violated, soft_cost, soft_weight, products_total, is_empty, product_constant}
use Rattle.base.specs.declared.costs.Cost.TheVariants.{Whole}

if_so-size : (b : Bool) (c : ℤ) → unsigned_abs (if_so b c) ≤ unsigned_abs c
if_so-size true c = omega arith
if_so-size false c = omega arith

-- a sum of numbers within sizes is within the sum of the sizes
total_within : {X : Type 0} (f : X → ℤ) (size : X → ℕ) (xs : List X)
    → ((x : X) → unsigned_abs (f x) ≤ size x) → unsigned_abs (total_by f xs) ≤ sum_by size xs
total_within f size xs each =
    omega (arith, size-total_by f xs, sum_by-le-sum_by (λ x. unsigned_abs (f x)) size xs each)

pub product-size : (x : List Bool) (t : Product)
    → unsigned_abs (product_value x t) ≤ unsigned_abs t.coefficient
product-size x t = if_so-size (all_hold x t.literals) t.coefficient

pub constant-size : (t : Product) → unsigned_abs (product_constant t) ≤ unsigned_abs t.coefficient
constant-size t = if_so-size (is_empty t.literals) t.coefficient

pub clause-size : (x : List Bool) (c : Clause) → unsigned_abs (soft_cost x c) ≤ soft_weight c
clause-size x c = if_so-size (is_violated x c) (pos (soft_weight c))

pub sum_of-size : (x : List Bool) (products : List Product)
    → unsigned_abs (sum_of x products) ≤ products_total products
sum_of-size x products = grind (arith, nat_tests, total_within, product-size)

pub soft_costs-size : (x : List Bool) (clauses : List Clause)
    → unsigned_abs (total_by (soft_cost x) clauses) ≤ sum_by soft_weight clauses
soft_costs-size x clauses = total_within (soft_cost x) soft_weight clauses (clause-size x)

-- ---- the cost, where nothing fails

pub own_cost-whole : (p : ProblemContent) (x : List Bool) (value : ℤ)
    → list_any (fails_hard x) p.clauses ≡ false → list_any (fails x) p.constraints ≡ false
    → value ≡ p.constant +ℤ sum_of x p.objective +ℤ total_by (soft_cost x) p.clauses
    → Whole value ≡ own_cost p x
own_cost-whole p x value hard constraints e = rw (hard, constraints) (ap Whole e)

-- the parts of the whole cost fit, one after the other
pub cost_parts : (p : ProblemContent) (x : List Bool)
    → unsigned_abs p.constant + unsigned_abs (sum_of x p.objective)
    + unsigned_abs (total_by (soft_cost x) p.clauses) ≤ problem_total p
cost_parts p x = omega (arith, sum_of-size x p.objective, soft_costs-size x p.clauses)
