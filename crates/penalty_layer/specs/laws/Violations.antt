-- The costs of products and clauses under one assignment. Nothing here has to be believed.
--
-- The penalty rests on what the objective and the soft clauses can gain: the objective lies between
-- what its negative coefficients come to and what its positive ones do, and a soft clause adds
-- between 0 and its weight.
use Rattle.std.specs.Prelude.{◌≡◌, ◌∷◌, ◌+ℤ◌, ◌≤ℤ◌}
use Rattle.penalty_layer.specs.laws.Common.{nat_tests, ℕ, Bool, true, false, not, List, [], map, ℤ, pos, unsigned_abs, refl, arith, unwrap_or, list_any, sum_by, ints, sum_by-cons, total_by, if_so, positive_part, total_by-map, Literal, Clause, Product, all_hold, some_holds, sum_of, products_total, is_violated, soft_weight, soft_cost, fails_hard, positive_total, term_cost, terms_cost, opposite, clause_terms, product_term, own, rest, some_whole, clause_prices}

-- ---- a clause is violated where the complements of its literals are all true

-- the complements are all true where no literal is
pub all_hold-opposite : (x : List Bool) (ls : List Literal)
    → all_hold x (map opposite ls) ≡ not (some_holds x ls)
all_hold-opposite x [] = refl
all_hold-opposite x (l ∷ ls) =
    let rest = all_hold-opposite x ls in grind (arith, nat_tests)

-- what a clause adds, where a hard one weighs n: its weight where no literal of it is true, and
-- else 0
abbrev pub clause_cost : List Bool → ℕ → Clause → ℤ
clause_cost x n c = if_so (is_violated x c) (pos (unwrap_or c.weight n))

-- the clauses' terms cost what the clauses add
pub clause_terms_cost : (x : List Bool) (n : ℕ) (ns : List ℕ) (cs : List Clause)
    → terms_cost x (clause_terms n ns cs) ≡ clause_prices x n ns cs
clause_terms_cost x n ns [] = refl
clause_terms_cost x n ns (c ∷ cs) = λ i.
    if_so (all_hold-opposite x c.literals i) (pos (unwrap_or c.weight (own n ns)))
    +ℤ clause_terms_cost x n (rest ns) cs i

-- the products' terms cost the objective
pub product_terms_cost : (x : List Bool) (ts : List Product)
    → terms_cost x (map product_term ts) ≡ sum_of x ts
product_terms_cost x ts = total_by-map (term_cost x) product_term ts

-- ---- clauses

-- a clause adds nothing negative
clause_not_negative : (x : List Bool) (n : ℕ) (c : Clause) → pos 0 ≤ℤ clause_cost x n c
clause_not_negative x n c = grind (arith, nat_tests, ints)

-- a violated hard clause adds n
clause_at_least : (x : List Bool) (n : ℕ) (c : Clause) → fails_hard x c ≡ true
    → pos n ≤ℤ clause_cost x n c
clause_at_least x n c h = grind (arith, nat_tests, ints)

-- any other clause adds what the soft clauses of the problem add
clause_soft : (x : List Bool) (n : ℕ) (c : Clause) → fails_hard x c ≡ false
    → clause_cost x n c ≡ soft_cost x c
clause_soft x n c h = grind (arith, nat_tests, ints)

-- so do all clauses together
pub clauses_not_negative : (x : List Bool) (n : ℕ) (ns : List ℕ) (cs : List Clause)
    → pos 0 ≤ℤ clause_prices x n ns cs
clauses_not_negative x n ns [] = omega (arith, ints)
clauses_not_negative x n ns (c ∷ cs) =
    omega (arith, ints, clause_not_negative x (own n ns) c, clauses_not_negative x n (rest ns) cs)

-- where a hard clause is violated that has the penalty of the whole, the clauses add at least that
pub clauses_at_least : (x : List Bool) (n : ℕ) (ns : List ℕ) (cs : List Clause)
    → some_whole (fails_hard x) n ns cs ≡ true → pos n ≤ℤ clause_prices x n ns cs
clauses_at_least x n ns [] h = cc
clauses_at_least x n ns (c ∷ cs) h =
    let here = clause_at_least x (own n ns) c in
    let others = clauses_at_least x n (rest ns) cs in
    let low = clause_not_negative x (own n ns) c in
    let lows = clauses_not_negative x n (rest ns) cs in
    grind (arith, nat_tests, ints)

-- where none is violated, the clauses add the weights of the violated soft ones
pub clauses_soft : (x : List Bool) (n : ℕ) (ns : List ℕ) (cs : List Clause)
    → list_any (fails_hard x) cs ≡ false
    → clause_prices x n ns cs ≡ total_by (soft_cost x) cs
clauses_soft x n ns [] h = refl
clauses_soft x n ns (c ∷ cs) h =
    let here = clause_soft x (own n ns) c in
    let others = clauses_soft x n (rest ns) cs in
    grind (arith, nat_tests, ints)

-- the soft clauses add at most their weights
pub soft_costs_upper : (x : List Bool) (cs : List Clause)
    → total_by (soft_cost x) cs ≤ℤ pos (sum_by soft_weight cs)
soft_costs_upper x [] = omega (arith, ints)
soft_costs_upper x (c ∷ cs) =
    let rest = soft_costs_upper x cs in
    simp sum_by-cons (grind (arith, nat_tests, ints))

-- ---- the objective lies between what is negative and what is positive

-- a coefficient counts no less than its positive part less its size
one_lower : (t : Bool) (c : ℤ) → pos (positive_part c) ≤ℤ (if_so t c +ℤ pos (unsigned_abs c))
one_lower t c = grind (arith, nat_tests, ints)

-- and no more than its positive part
one_upper : (t : Bool) (c : ℤ) → if_so t c ≤ℤ pos (positive_part c)
one_upper t c = grind (arith, nat_tests, ints)

-- the objective is no less than its positive part less the sizes of all coefficients
pub sum_lower : (x : List Bool) (ts : List Product)
    → pos (positive_total ts) ≤ℤ (sum_of x ts +ℤ pos (products_total ts))
sum_lower x [] = omega (arith, ints)
sum_lower x (t ∷ ts) =
    simp sum_by-cons (omega (arith, ints, sum_lower x ts, one_lower (all_hold x t.literals) t.coefficient))

-- the objective is no more than its positive part
pub sum_upper : (x : List Bool) (ts : List Product) → sum_of x ts ≤ℤ pos (positive_total ts)
sum_upper x [] = omega (arith, ints)
sum_upper x (t ∷ ts) =
    simp sum_by-cons (omega (arith, ints, sum_upper x ts, one_upper (all_hold x t.literals) t.coefficient))
