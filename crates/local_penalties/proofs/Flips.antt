-- What an assignment loses and gains when a literal that is false becomes true.
use Rattle.local_penalties.proofs.Common.{◌≡◌, ℕ, ◌<◌, ◌≤◌, refl, arith, nat_tests, ints, elements, List, [], ◌∷◌, length, set, get_or, Bool, true, false, not, cond, ◌||◌, eqb, beq, sum_by, sum_by-cons, pos, ◌+ℤ◌, ◌≤ℤ◌, neg_ℤ, positive_part, Literal, Product, Clause, Constraint, meets, moves, moves_sum, product_rise, negative_total, positive_total, hurts_clause, hurts_constraint, most_missing}
use Rattle.problem_form.proofs.Common.{holds, all_hold, some_holds, product_value, sum_of, fails_hard}
use Rattle.problem_form.specs.PartPenalties.{made_true, missing}

get-set : (x : List Bool) (i j : ℕ) (b : Bool) → i < length x
    → get_or (set x i b) j false ≡ cond (eqb j i) b (get_or x j false)
get-set x i j b within = grind (arith, nat_tests, elements)

-- a literal of the same variable is true where it is the same, and others stay as they are
pub holds-made : (x : List Bool) (l m : Literal) → l.variable < length x
    → holds (made_true x l) m ≡ cond (eqb m.variable l.variable) (beq m.negated l.negated) (holds x m)
holds-made x l m within =
    let bit = get-set x l.variable m.variable (not l.negated) within in
    grind (arith, nat_tests)

-- products that become true have the literal, and those that become false have its complement
pub all-made : (x : List Bool) (l : Literal) (ls : List Literal) → l.variable < length x
    → all_hold (made_true x l) ls ≡ true → (all_hold x ls || meets false ls l) ≡ true
all-made x l [] within after = refl
all-made x l (m ∷ ls) within after =
    let here = holds-made x l m within in
    let others = all-made x l ls within in
    grind (arith, nat_tests)

pub all-lost : (x : List Bool) (l : Literal) (ls : List Literal) → l.variable < length x
    → all_hold x ls ≡ true → (all_hold (made_true x l) ls || meets true ls l) ≡ true
all-lost x l [] within before = refl
all-lost x l (m ∷ ls) within before =
    let here = holds-made x l m within in
    let others = all-lost x l ls within in
    grind (arith, nat_tests)

-- a clause that loses its last true literal has the complement
pub some-lost : (x : List Bool) (l : Literal) (ls : List Literal) → l.variable < length x
    → some_holds x ls ≡ true → (some_holds (made_true x l) ls || meets true ls l) ≡ true
some-lost x l [] within before = before
some-lost x l (m ∷ ls) within before =
    let here = holds-made x l m within in
    let others = some-lost x l ls within in
    grind (arith, nat_tests)

-- ---- products

pub product-rises : (x : List Bool) (l : Literal) (t : Product) → l.variable < length x
    → product_value (made_true x l) t ≤ℤ (product_value x t +ℤ pos (product_rise l t))
product-rises x l t within =
    let gains = all-made x l t.literals within in
    let loses = all-lost x l t.literals within in
    grind (arith, nat_tests, ints)

pub products-rise : (x : List Bool) (l : Literal) (ts : List Product) → l.variable < length x
    → sum_of (made_true x l) ts ≤ℤ (sum_of x ts +ℤ pos (sum_by (product_rise l) ts))
products-rise x l [] within = grind (arith, ints)
products-rise x l (t ∷ ts) within =
    let here = product-rises x l t within in
    let others = products-rise x l ts within in
    grind (arith, ints, sum_by-cons (product_rise l) t ts)

-- ---- hard parts

pub clause-breaks : (x : List Bool) (l : Literal) (c : Clause) → l.variable < length x
    → fails_hard (made_true x l) c ≡ true → (fails_hard x c || hurts_clause c l) ≡ true
clause-breaks x l c within broken =
    let loses = some-lost x l c.literals within in
    grind (arith, nat_tests)

-- ---- sums of constraints

pub value-keeps : (up : Bool) (x : List Bool) (l : Literal) (t : Product) → l.variable < length x
    → moves up t l ≡ false
    → cond up (product_value (made_true x l) t) (product_value x t) ≤ℤ cond up (product_value x t) (product_value (made_true x l) t)
value-keeps up x l t within none =
    let gains = all-made x l t.literals within in
    let loses = all-lost x l t.literals within in
    grind (arith, nat_tests, ints)

-- a sum that the literal cannot raise does not rise, and one that it cannot lower does not fall
pub sum-keeps : (up : Bool) (x : List Bool) (l : Literal) (ts : List Product) → l.variable < length x
    → moves_sum up ts l ≡ false
    → cond up (sum_of (made_true x l) ts) (sum_of x ts) ≤ℤ cond up (sum_of x ts) (sum_of (made_true x l) ts)
sum-keeps up x l [] within none = grind (arith, nat_tests, ints)
sum-keeps up x l (t ∷ ts) within none =
    let here = value-keeps up x l t within in
    let others = sum-keeps up x l ts within in
    grind (arith, nat_tests, ints)

-- a sum lies between the negative and the positive coefficients
pub sum-low : (x : List Bool) (ts : List Product) → neg_ℤ (pos (negative_total ts)) ≤ℤ sum_of x ts
sum-low x [] = grind (arith, ints)
sum-low x (t ∷ ts) =
    let others = sum-low x ts in
    let sum = sum_by-cons (λ (u : Product). positive_part (neg_ℤ u.coefficient)) t ts in
    grind (arith, nat_tests, ints)

pub sum-high : (x : List Bool) (ts : List Product) → sum_of x ts ≤ℤ pos (positive_total ts)
sum-high x [] = grind (arith, ints)
sum-high x (t ∷ ts) =
    let others = sum-high x ts in
    let sum = sum_by-cons (λ (u : Product). positive_part u.coefficient) t ts in
    grind (arith, nat_tests, ints)

-- no more is missing than can be
pub missing-le : (x : List Bool) (k : Constraint) → missing x k ≤ most_missing k
missing-le x k =
    let low = sum-low x k.products in
    let high = sum-high x k.products in
    grind (arith, nat_tests, ints)

-- where the literal does not hurt a constraint, no more is missing than before
pub missing-keeps : (x : List Bool) (l : Literal) (k : Constraint) → l.variable < length x
    → hurts_constraint k l ≡ false → missing (made_true x l) k ≤ missing x k
missing-keeps x l k within none =
    let low = sum-keeps false x l k.products within in
    let high = sum-keeps true x l k.products within in
    grind (arith, nat_tests, ints)
