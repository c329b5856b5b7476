-- The normal form of a problem costs what the problem costs.
--
-- The set of a list passes the same tests as the list. A literal and its complement are never both
-- true and never both false, so a clash makes a product 0 and a clause true.
use Rattle.problem_form.proofs.Common.{nat_tests, ◌≡◌, ℕ, Bool, true, false, cond, not, ◌&&◌, ◌||◌, arith, refl, sym, ap, ◌∙◌, List, [], ◌∷◌, map, get_or, length, Option, Some, None, is_none, ℤ, pos, ◌+ℤ◌, ◌-ℤ◌, int_lt, int_eq, list_any, flat_map, ints, eqb-true, Any-from_list_any, list_any-append, list_all_at, list_any_at, if◌then◌else◌, ◌<◌, unwrap_or, total_by, if_so, total_by-append, Literal, Product, Clause, Constraint, holds, all_hold, some_holds, are_opposite, has_clash, literal_set, product_value, sum_of, soft_cost, fails_hard, fails, cut_off, is_empty, kept_product, product_constant, is_plain_cost, kept_clause, clause_constant, normal_constraint, NormalFormKeepsCosts, list_any-literal_set, list_all-literal_set, ProblemContent, normal_form}
use Rattle.base.specs.declared.costs.Cost.TheVariants.{Whole, Infinite}

-- ---- a literal and its complement

opposite_holds : (x : List Bool) (l m : Literal) → are_opposite l m ≡ true
    → holds x m ≡ not (holds x l)
opposite_holds x l m e = grind (arith, nat_tests)

-- two members, of which one is true and one is false
record Clash (x : List Bool) (ls : List Literal) : Type 0 where
  some_true : some_holds x ls ≡ true
  some_false : all_hold x ls ≡ false

clash_at : (x : List Bool) (ls : List Literal) (k j : ℕ) (l m : Literal) → k < length ls
    → get_or ls k l ≡ l → j < length ls → get_or ls j m ≡ m → holds x m ≡ not (holds x l)
    → Clash x ls
clash_at x ls k j l m in_k at_k in_j at_j opposite =
    grind (arith, nat_tests, list_any_at, list_all_at)

clash_values : (x : List Bool) (ls : List Literal) → has_clash ls ≡ true → Clash x ls
clash_values x ls e =
    let a = Any-from_list_any (λ l. list_any (are_opposite l) ls) ls e in
    let b = Any-from_list_any (are_opposite a.1) ls a.4 in
    clash_at x ls a.0 b.0 a.1 b.1 a.2 a.3 b.2 b.3 (opposite_holds x a.1 b.1 b.4)

-- not all of them are true
pub all_hold-clash : (x : List Bool) (ls : List Literal) → has_clash ls ≡ true → all_hold x ls ≡ false
all_hold-clash x ls e = (clash_values x ls e).some_false

empty_is : (ls : List Literal) → is_empty ls ≡ true → ls ≡ []
empty_is [] e = refl
empty_is (l ∷ ls) e = absurd cc

if_so-zero : (b : Bool) → if_so b (pos 0) ≡ pos 0
if_so-zero true = refl
if_so-zero false = refl

-- ---- products

product_parts : (x : List Bool) (ls : List Literal) (c : ℤ) (clash zero empty : Bool)
    → has_clash ls ≡ clash → (zero ≡ true → c ≡ pos 0) → is_empty ls ≡ empty
    → if_so (all_hold x ls) c ≡ cond empty c (pos 0)
    +ℤ sum_of x (if clash || zero || empty
    then []
    else record { literals = literal_set ls; coefficient = c } ∷ [])
product_parts x ls c true zero empty e f g =
    let none = empty_is ls in
    let clash = clash_values x ls e in
    grind (arith, nat_tests, ints)
product_parts x ls c false zero true e f g =
    let empty : all_hold x ls ≡ true = ap (all_hold x) (empty_is ls g) in
    grind (arith, nat_tests, ints)
product_parts x ls c false true false e f g =
    ap (if_so (all_hold x ls)) (f refl) ∙ if_so-zero (all_hold x ls)
product_parts x ls c false false false e f g =
    rw (list_all-literal_set (holds x) ls) (omega (arith, ints))

kept_product-value : (x : List Bool) (t : Product)
    → product_value x t ≡ product_constant t +ℤ sum_of x (kept_product t)
kept_product-value x t = grind (arith, nat_tests, ints, product_parts)

-- the sum of products as written is that of the kept ones, and the constants
pub sum_of-kept : (x : List Bool) (ts : List Product)
    → sum_of x ts ≡ total_by product_constant ts +ℤ sum_of x (flat_map kept_product ts)
sum_of-kept x [] = refl
sum_of-kept x (t ∷ ts) =
    let both = total_by-append (product_value x) (kept_product t) (flat_map kept_product ts) in
    omega (arith, ints, kept_product-value x t, sum_of-kept x ts)

-- ---- clauses

hard_parts : (x : List Bool) (w : Option ℕ) (ls : List Literal) (clash : Bool)
    → has_clash ls ≡ clash → (is_none w && not (some_holds x ls)) ≡ list_any (fails_hard x)
    (if clash || is_plain_cost w ls
    then []
    else record { literals = literal_set ls; weight = w } ∷ [])
hard_parts x w ls clash e = grind (arith, nat_tests, clash_values, list_any-literal_set)

kept_clause-fails : (x : List Bool) (c : Clause)
    → fails_hard x c ≡ list_any (fails_hard x) (kept_clause c)
kept_clause-fails x c = hard_parts x c.weight c.literals (has_clash c.literals) refl

pub list_any-kept : (x : List Bool) (cs : List Clause)
    → list_any (fails_hard x) (flat_map kept_clause cs) ≡ list_any (fails_hard x) cs
list_any-kept x [] = refl
list_any-kept x (c ∷ cs) =
    list_any-append (fails_hard x) (kept_clause c) (flat_map kept_clause cs)
    ∙ (λ i. sym (kept_clause-fails x c) i || list_any-kept x cs i)

soft_parts : (x : List Bool) (w : ℕ) (ls : List Literal) (clash zero empty : Bool)
    → has_clash ls ≡ clash → (zero ≡ true → w ≡ 0) → is_empty ls ≡ empty
    → if_so (not (some_holds x ls)) (pos w) ≡ cond empty (pos w) (pos 0)
    +ℤ total_by (soft_cost x) (if clash || (zero || empty)
    then []
    else record { literals = literal_set ls; weight = Some w } ∷ [])
soft_parts x w ls clash is empty e f g =
    grind (arith, nat_tests, ints, empty_is, clash_values, if_so-zero, list_any-literal_set)

weightless : (x : List Bool) (ls s : List Literal) (b : Bool)
    → if_so (not (some_holds x ls)) (pos 0) ≡ pos 0
    +ℤ total_by (soft_cost x) (if b then [] else record { literals = s; weight = None } ∷ [])
weightless x ls s b = grind (arith, nat_tests, ints)

cost_parts : (x : List Bool) (w : Option ℕ) (ls : List Literal)
    → if_so (not (some_holds x ls)) (pos (unwrap_or w 0))
    ≡ clause_constant (record { literals = ls; weight = w })
    +ℤ total_by (soft_cost x) (if has_clash ls || is_plain_cost w ls
    then []
    else record { literals = literal_set ls; weight = w } ∷ [])
cost_parts x w ls = grind (arith, nat_tests, ints, weightless, soft_parts, eqb-true)

kept_clause-cost : (x : List Bool) (c : Clause)
    → soft_cost x c ≡ clause_constant c +ℤ total_by (soft_cost x) (kept_clause c)
kept_clause-cost x c = cost_parts x c.weight c.literals

pub soft_cost-kept : (x : List Bool) (cs : List Clause) → total_by (soft_cost x) cs
    ≡ total_by clause_constant cs +ℤ total_by (soft_cost x) (flat_map kept_clause cs)
soft_cost-kept x [] = refl
soft_cost-kept x (c ∷ cs) =
    let both = total_by-append (soft_cost x) (kept_clause c) (flat_map kept_clause cs) in
    omega (arith, ints, kept_clause-cost x c, soft_cost-kept x cs)

-- ---- constraints

int_eq-less : (a b c d : ℤ) → a ≡ c +ℤ d → int_eq d (b -ℤ c) ≡ int_eq a b
int_eq-less a b c d e = grind (arith, ints)

int_lt-less : (a b c d : ℤ) → a ≡ c +ℤ d → int_lt d (b -ℤ c) ≡ int_lt a b
int_lt-less a b c d e = grind (arith, ints)

normal_constraint-fails : (x : List Bool) (k : Constraint)
    → fails x (normal_constraint k) ≡ fails x k
normal_constraint-fails x k = grind (arith, nat_tests, int_eq-less, sum_of-kept, int_lt-less)

list_any-constraints : (x : List Bool) (ks : List Constraint)
    → list_any (fails x) (map normal_constraint ks) ≡ list_any (fails x) ks
list_any-constraints x [] = refl
list_any-constraints x (k ∷ ks) = λ i. normal_constraint-fails x k i || list_any-constraints x ks i

-- ---- the whole

pub normal_form-cost : NormalFormKeepsCosts
normal_form-cost p x =
    let value : ProblemContent → ℤ =
    λ q. q.constant +ℤ sum_of x q.objective +ℤ total_by (soft_cost x) q.clauses in
    let whole : value (normal_form p) ≡ value p =
    omega (arith, ints, sum_of-kept x p.objective, soft_cost-kept x p.clauses) in
    λ i. cut_off p.most (if list_any-kept x p.clauses i || list_any-constraints x p.constraints i
    then Infinite
    else Whole (whole i))
