-- The literals past the second of all sets that a problem's terms have are at most the auxiliary
-- bits besides the slack bits.
--
-- A union of two sets of at most d literals has at most 2d, and a square of m terms gives at most
-- m² sets. A set with k complements is multiplied out to 2^k sets of no more literals; the counted
-- bits have the same factor, and for a constraint, whose products of two have twice the
-- complements, its square.
use Rattle.model_pipeline.proofs.Common.{◌≡◌, ℕ, suc, ◌+◌, ◌-◌, ◌*◌, ◌^◌, ◌≤◌, Bool, true, false, leb, List, [], ◌∷◌, ◌++◌, length, map, pos, ◌*ℤ◌, refl, sym, ap, ◌∙◌, arith, if◌then◌else◌, nat_le, sum_by, mul-le-mul_left, mul-le-mul_right, pow_mono, nat_tests, sum_by-cons, sum_by-append, pow-add, Literal, Product, Clause, Constraint, Normal, ProblemContent, penalty, factor, product_bits, clause_bits, constraint_bits, constraint_degree, most_complements, summands, slack_bits, auxiliary_bits, Term, scaled, product_terms, products_with, complements, sets_sum, sets_sum-cons, sets_sum-with_additions, AreFew, sets_sum-contributions, length-union, own, rest, clause_term, clause_terms, plain_terms, contributions, product_term, square_terms, slack_form, constraint_terms, opposites_length, AreShort, length-slack_form, slack_form-short, square_is, complements-opposites, few-square, few-slack_form, excess, terms_of, zero, cond, int_lt, High, TableContent, nodes_for, new_nodes, substituted, run, length-image, low_terms_of, NodesAreFew, cases_Bool, inl, inr}
use Rattle.model_pipeline.proofs.Standing.{terms_width}
use Rattle.problem_form.specs.declared.limits.Normal.TheVariants as normals
use Rattle.term_table.specs.MultipliedOut as multiplied
use Rattle.penalty_layer.specs.Penalty as penalty_method

-- how many literals a set has past its second
abbrev pub past : List Literal → ℕ
past ls = length ls - 2

past-append : (ts us : List Term) → sets_sum past (ts ++ us) ≡ sets_sum past ts + sets_sum past us
past-append ts us = sum_by-append (λ (t : Term). past t.0) ts us

-- ---- a square

product_terms-past : (d q : ℕ) (t u : Term) → length t.0 ≤ d → length u.0 ≤ d → 2 * d ≤ q + 2
    → sets_sum past (product_terms t u) ≤ q
product_terms-past d q t u h k room =
    grind (arith, nat_tests, sets_sum, length-union, sets_sum-cons)

products_with-past : (d q : ℕ) (t : Term) (us : List Term) → length t.0 ≤ d → AreShort d us
    → 2 * d ≤ q + 2 → sets_sum past (products_with t us) ≤ q * length us
products_with-past d q t [] h short room = omega arith
products_with-past d q t (u ∷ us) h short room =
    let both = past-append (product_terms t u) (products_with t us) in
    let products = products_with-past d q t us h short.1 room in
    omega (arith, product_terms-past d q t u h short.0 room)

past_step : (m q own off rest all : ℕ) → own ≤ q → off ≤ q * m → rest ≤ m * m * q
    → all ≡ own + (off + rest) → all ≤ suc m * suc m * q
past_step m q own off rest all h k l e = grind (arith, nat_tests)

-- where no set has more than d literals, a union has at most q past its second
square_terms-past : (n d q : ℕ) (ts : List Term) → AreShort d ts → 2 * d ≤ q + 2
    → sets_sum past (square_terms n ts) ≤ length ts * length ts * q
square_terms-past n d q [] short room = omega arith
square_terms-past n d q (t ∷ ts) short room =
    let off = products_with (scaled (pos (2 * n)) t) ts in
    let first = short.0 in
    let own : past t.0 ≤ q = omega arith in
    past_step (length ts) q (past t.0) (sets_sum past off) (sets_sum past (square_terms n ts))
    (sets_sum past (square_terms n (t ∷ ts))) own
    (products_with-past d q (scaled (pos (2 * n)) t) ts short.0 short.1 room)
    (square_terms-past n d q ts short.1 room)
    (sets_sum-cons past (t.0, pos n *ℤ (t.1 *ℤ t.1)) (off ++ square_terms n ts)
    ∙ ap (λ m. past t.0 + m) (past-append off (square_terms n ts)))

-- what a union of two sets of at most so many literals counts
abbrev union_past : Bool → ℕ → ℕ
union_past linear d = if linear then 0 else 2 * d

-- the same, of the products of a constraint
abbrev each_past : Constraint → ℕ
each_past k = union_past (nat_le (constraint_degree k) 1) (constraint_degree k)

constraint-past : (n first : ℕ) (k : Constraint)
    → sets_sum past (square_terms n (slack_form first k))
    ≤ summands normals.Literal k ^ 2 * each_past k
constraint-past n first k =
    let d = constraint_degree k in
    elim (cases_Bool (nat_le d 1)) [
      | inl linear ↦ rw linear (within 1 0 (slack_form-short 1 first k (grind (arith, nat_tests)) (omega arith)) (omega arith))
      | inr over ↦ rw over (within d (2 * d) (slack_form-short d first k (omega arith) (grind (arith, nat_tests))) (omega arith))
    ]
  where
    within : (b q : ℕ) → AreShort b (slack_form first k) → 2 * b ≤ q + 2
        → sets_sum past (square_terms n (slack_form first k)) ≤ summands normals.Literal k ^ 2 * q
    within b q short room =
        let terms = ap (λ x. x * x * q) (length-slack_form first k) in
        let square = ap (λ x. x * q) (square_is (summands normals.Literal k)) in
        omega (arith, square_terms-past n b q (slack_form first k) short room)

-- ---- with what sets are multiplied out to

-- what a set counts in a normal form
abbrev counted : Normal → List Literal → ℕ
counted normal ls = factor normal (complements ls) * past ls

counted-append : (normal : Normal) (ts us : List Term) → sets_sum (counted normal) (ts ++ us)
    ≡ sets_sum (counted normal) ts + sets_sum (counted normal) us
counted-append normal ts us = sum_by-append (λ (t : Term). counted normal t.0) ts us

literal-counted : (ts : List Term) → sets_sum (counted normals.Literal) ts ≡ sets_sum past ts
literal-counted [] = refl
literal-counted (t ∷ ts) = grind (arith, nat_tests, literal-counted ts)

multilinear-few : (most : ℕ) (ts : List Term) → AreFew most ts
    → sets_sum (counted normals.Multilinear) ts ≤ 2 ^ most * sets_sum past ts
multilinear-few most [] few = omega arith
multilinear-few most (t ∷ ts) few =
    let sets = sets_sum-cons (counted normals.Multilinear) t ts in
    let both = ap (λ m. 2 ^ most * m) (sets_sum-cons past t ts) in
    omega (arith, multilinear-few most ts few.1, mul-le-mul_right (past t.0) (pow_mono few.0))

-- ---- products and clauses

products-counted : (normal : Normal) (ts : List Product)
    → sets_sum (counted normal) (map product_term ts) ≡ sum_by (product_bits normal) ts
products-counted normal [] = refl
products-counted normal (t ∷ ts) =
    let rest0 = products-counted normal ts in simp sum_by-cons (grind (arith, nat_tests, sets_sum-cons))

clauses-counted : (normal : Normal) (n : ℕ) (ns : List ℕ) (cs : List Clause)
    → sets_sum (counted normal) (clause_terms n ns cs) ≡ sum_by (clause_bits normal) cs
clauses-counted normal n ns [] = refl
clauses-counted normal n ns (c ∷ cs) =
    sets_sum-cons (counted normal) (clause_term (own n ns) c) (clause_terms n (rest ns) cs)
    ∙ (λ i. factor normal (complements-opposites c.literals i) * (opposites_length c.literals i - 2)
    + clauses-counted normal n (rest ns) cs i) ∙ sym (sum_by-cons (clause_bits normal) c cs)

-- ---- constraints

-- a product of two terms of a constraint has twice the complements
summands-scaled : (k : Constraint) (q : ℕ) → summands normals.Multilinear k ^ 2 * q
    ≡ 2 ^ (2 * most_complements k) * (summands normals.Literal k ^ 2 * q)
summands-scaled k q =
    let m = most_complements k in
    let twice : 2 * m ≡ m + m = omega arith in
    let power = ap (λ i. 2 ^ i) twice ∙ pow-add 2 m m in
    let square = ap (λ x. x * q) (square_is (summands normals.Multilinear k)) in
    let other = ap (λ x. 2 ^ (2 * m) * (x * q)) (square_is (summands normals.Literal k)) in
    let power_is = ap (λ x. x * (summands normals.Literal k * summands normals.Literal k * q)) power in
    omega arith

constraint-counted : (normal : Normal) (n first : ℕ) (k : Constraint)
    → sets_sum (counted normal) (square_terms n (slack_form first k))
    ≤ summands normal k ^ 2 * each_past k
constraint-counted normals.Literal n first k = omega (arith, literal-counted, constraint-past)
constraint-counted normals.Multilinear n first k =
    let m = most_complements k in
    let ts = square_terms n (slack_form first k) in
    let few = few-square m (2 * m) n (slack_form first k) (omega arith) (few-slack_form first k) in
    let left = mul-le-mul_left (2 ^ (2 * m)) (constraint-past n first k) in
    omega (arith, multilinear-few (2 * m) ts few, summands-scaled k (each_past k))

constraints-counted : (normal : Normal) (n : ℕ) (ns : List ℕ) (first : ℕ) (ks : List Constraint)
    → sets_sum (counted normal) (constraint_terms n ns first ks) + sum_by slack_bits ks
    ≤ sum_by (constraint_bits normal) ks
constraints-counted normal n ns first [] = omega arith
constraints-counted normal n ns first (k ∷ ks) =
    let both = counted-append normal (square_terms (own n ns) (slack_form first k))
    (constraint_terms n (rest ns) (first + slack_bits k) ks) in
    let constraints_counted = constraints-counted normal n (rest ns) (first + slack_bits k) ks in
    let sum = sum_by-cons (constraint_bits normal) k ks in
    omega (arith, constraint-counted normal (own n ns) first k, sum_by-cons slack_bits k ks)

-- ---- the whole

contributions-counted : (normal : Normal) (p : ProblemContent)
    → sets_sum (counted normal) (contributions p) + sum_by slack_bits p.constraints
    ≤ auxiliary_bits normal p
contributions-counted normal p =
    let products = map product_term p.objective in
    let clauses = clause_terms (penalty p) p.penalties.clauses p.clauses in
    let both = counted-append normal (plain_terms p)
    (constraint_terms (penalty p) p.penalties.constraints p.variables p.constraints) in
    let sets = sets_sum-cons (counted normal) ([], p.constant) (products ++ clauses) in
    let clauses_counted = clauses-counted normal (penalty p) p.penalties.clauses p.clauses in
    let constraints_counted =
    constraints-counted normal (penalty p) p.penalties.constraints p.variables p.constraints in
    omega (arith, counted-append normal products clauses, products-counted normal p.objective)

past-rises : (a b : ℕ) → a ≤ b → a - 2 ≤ b - 2
past-rises a b h = omega arith

-- terms of one set are summed, so no set counts more than once for each that contributes it
terms-counted : (normal : Normal) (p : ProblemContent)
    → excess (terms_of normal p).terms ≤ sets_sum (counted normal) (contributions p)
terms-counted normals.Literal p = omega (arith, sets_sum-with_additions, literal-counted)
terms-counted normals.Multilinear p =
    let first = (penalty_method.image p).terms in
    let sets = sets_sum-contributions (λ n. n - 2) past-rises first in
    let additions = sets_sum-with_additions (counted normals.Multilinear) (contributions p) in
    omega (arith, sets_sum-with_additions past (multiplied.contributions first))

-- with the slack bits they are at most the auxiliary bits
pub excess_within : (normal : Normal) (p : ProblemContent)
    → excess (terms_of normal p).terms + sum_by slack_bits p.constraints ≤ auxiliary_bits normal p
excess_within normal p = omega (arith, terms-counted normal p, contributions-counted normal p)

-- The nodes of a quadratic form are at most the variables and the auxiliary bits: a new node for
-- terms of degree 3 or more takes the place of a literal past the second of a term.

-- ---- each term replaced by itself

new_nodes-past : (t : Term) → new_nodes t ≤ length t.0 - 2
new_nodes-past t =
    go (leb (length t.0) 2) (int_lt t.1 (pos 0)) (λ e. grind (arith, nat_tests))
  where
    go : (a b : Bool) → (a ≡ false → 3 ≤ length t.0)
        → cond a 0 (cond b 1 (nodes_for (length t.0))) ≤ length t.0 - 2
    go true b h = omega arith
    go false true h = let high = h refl in omega arith
    go false false h = let high = h refl in grind arith

new_nodes-excess : (ts : List Term) → sum_by new_nodes ts ≤ excess ts
new_nodes-excess [] = omega arith
new_nodes-excess (t ∷ ts) =
    omega (arith, new_nodes-past, new_nodes-excess ts, sum_by-cons, sets_sum-cons)

-- ---- pairs replaced one after another

run-width : (k : ℕ) (t : TableContent) → (run k t).width ≤ t.width + k
run-width zero t = omega arith
run-width (suc k) t = grind (arith, nat_tests, run-width k (substituted t))

-- ---- the whole

low-width : (high : High) (t : TableContent)
    → (low_terms_of high t).width ≤ t.width + excess t.terms
low-width high t = grind (arith, nat_tests, new_nodes-excess, run-width)

pub nodes_are_few : NodesAreFew
nodes_are_few choices p =
    grind (arith, nat_tests, length-image, low-width, terms_width, excess_within)
