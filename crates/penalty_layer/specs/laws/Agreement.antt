-- A problem costs the same under two states that agree on its variables. Nothing
-- here has to be believed.
--
-- The slack bits stand after the variables, and no product, clause or constraint of the problem
-- names them. So a state costs the problem what its first bits cost.
use Rattle.std.specs.Prelude.{◌≡◌, ◌*◌, ◌^◌, ◌<◌, ◌&&◌, ◌||◌, ◌∷◌, ℤ, ◌+ℤ◌, ◌-ℤ◌, if◌then◌else◌}
use Rattle.penalty_layer.specs.laws.Common.{ℕ, Bool, not, refl, List, [], pos, is_none, int_lt, All, All-head, All-tail, int_eq, list_any, total_by, if_so, Whole, Infinite, Literal, Product, Clause, Constraint, some_holds, ProblemContent, IsNormal, IsNormalProduct, IsNormalClause, sum_of, fails_hard, fails, cut_off, problem_cost, unwrap_or, unsigned_abs, positive_part, soft_cost, soft_weight, own, rest, clause_prices, constraint_prices, Agrees, holds-agrees, all_hold-agrees}

-- the products of the constraint are in normal form over n variables
abbrev pub IsNormalConstraint : ℕ → Constraint → Type 0
IsNormalConstraint n k = All (IsNormalProduct n) k.products

-- ---- its parts

-- some literal of the first n variables is true under both states, or none is
pub some_holds-agrees : (n : ℕ) (x y : List Bool) (ls : List Literal) → Agrees n x y
    → All (λ l. l.variable < n) ls → some_holds x ls ≡ some_holds y ls
some_holds-agrees n x y [] same below = refl
some_holds-agrees n x y (l ∷ ls) same below =
    let P : Literal → Type 0 = λ k. k.variable < n in
    λ i. holds-agrees n x y l same (All-head P l ls below) i
    || some_holds-agrees n x y ls same (All-tail P l ls below) i

-- products of the first n variables have the same sum under both states
pub sum_of-agrees : (n : ℕ) (x y : List Bool) (ts : List Product) → Agrees n x y
    → All (IsNormalProduct n) ts → sum_of x ts ≡ sum_of y ts
sum_of-agrees n x y [] same normal = refl
sum_of-agrees n x y (t ∷ ts) same normal =
    let product = All-head (IsNormalProduct n) t ts normal in
    let rest = All-tail (IsNormalProduct n) t ts normal in
    λ i. if_so (all_hold-agrees n x y t.literals same product.set.within i) t.coefficient
    +ℤ sum_of-agrees n x y ts same rest i

-- clauses add the same under both, where a hard one weighs m or its own penalty
pub clauses-agree : (m : ℕ) (ms : List ℕ) (n : ℕ) (x y : List Bool) (cs : List Clause) → Agrees n x y
    → All (IsNormalClause n) cs → clause_prices x m ms cs ≡ clause_prices y m ms cs
clauses-agree m ms n x y [] same normal = refl
clauses-agree m ms n x y (c ∷ cs) same normal =
    let clause = All-head (IsNormalClause n) c cs normal in
    let others = All-tail (IsNormalClause n) c cs normal in
    let true_in_both = some_holds-agrees n x y c.literals same clause.set.within in
    λ i. if_so (not (true_in_both i)) (pos (unwrap_or c.weight (own m ms)))
    +ℤ clauses-agree m (rest ms) n x y cs same others i

-- and so do constraints
pub constraints-agree : (m : ℕ) (ms : List ℕ) (n : ℕ) (x y : List Bool) (ks : List Constraint)
    → Agrees n x y → All (IsNormalConstraint n) ks
    → constraint_prices x m ms ks ≡ constraint_prices y m ms ks
constraints-agree m ms n x y [] same normal = refl
constraints-agree m ms n x y (k ∷ ks) same normal =
    let sums = sum_of-agrees n x y k.products same (All-head (IsNormalConstraint n) k ks normal) in
    let others = All-tail (IsNormalConstraint n) k ks normal in
    let short = λ (s : ℤ). if k.exact then unsigned_abs (s -ℤ k.bound) else positive_part (k.bound -ℤ s) in
    λ i. pos (own m ms * short (sums i) ^ 2) +ℤ constraints-agree m (rest ms) n x y ks same others i

-- clauses that are violated cost their soft weights under both
soft-agrees : (n : ℕ) (x y : List Bool) (cs : List Clause) → Agrees n x y
    → All (IsNormalClause n) cs → total_by (soft_cost x) cs ≡ total_by (soft_cost y) cs
soft-agrees n x y [] same normal = refl
soft-agrees n x y (c ∷ cs) same normal =
    let clause = All-head (IsNormalClause n) c cs normal in
    let others = All-tail (IsNormalClause n) c cs normal in
    let true_in_both = some_holds-agrees n x y c.literals same clause.set.within in
    λ i. if_so (not (true_in_both i)) (pos (soft_weight c)) +ℤ soft-agrees n x y cs same others i

-- some hard clause is violated under both, or none is
hard-agrees : (n : ℕ) (x y : List Bool) (cs : List Clause) → Agrees n x y
    → All (IsNormalClause n) cs → list_any (fails_hard x) cs ≡ list_any (fails_hard y) cs
hard-agrees n x y [] same normal = refl
hard-agrees n x y (c ∷ cs) same normal =
    let clause = All-head (IsNormalClause n) c cs normal in
    let rest = All-tail (IsNormalClause n) c cs normal in
    λ i. (is_none c.weight && not (some_holds-agrees n x y c.literals same clause.set.within i))
    || hard-agrees n x y cs same rest i

-- some constraint fails under both, or none does
fails-agrees : (n : ℕ) (x y : List Bool) (ks : List Constraint) → Agrees n x y
    → All (IsNormalConstraint n) ks → list_any (fails x) ks ≡ list_any (fails y) ks
fails-agrees n x y [] same normal = refl
fails-agrees n x y (k ∷ ks) same normal =
    let sums = sum_of-agrees n x y k.products same (All-head (IsNormalConstraint n) k ks normal) in
    let rest = All-tail (IsNormalConstraint n) k ks normal in
    λ i. (if k.exact then not (int_eq (sums i) k.bound) else int_lt (sums i) k.bound)
    || fails-agrees n x y ks same rest i

-- ---- the whole

-- the cost of a problem in normal form is the same under states that agree on its variables
pub problem_cost-agrees : (x y : List Bool) (p : ProblemContent) → IsNormal p → Agrees p.variables x y
    → problem_cost p x ≡ problem_cost p y
problem_cost-agrees x y p normal same =
    let n = p.variables in
    let hard = hard-agrees n x y p.clauses same normal.clauses in
    let broken = fails-agrees n x y p.constraints same normal.constraints in
    let sums = sum_of-agrees n x y p.objective same normal.objective in
    let soft = soft-agrees n x y p.clauses same normal.clauses in
    λ i. cut_off p.most
    (if hard i || broken i then Infinite else Whole (p.constant +ℤ sums i +ℤ soft i))
