-- The size of a multilinear form is at most the variables, twice the pairs, and 1.
--
-- A set with k complements is multiplied out to 2^k sets of no more literals. The counted pairs have
-- the same factor: 2^k for a product or a clause, and for a constraint, whose products of two have
-- twice the complements, its square.
use Rattle.normal_form.proofs.Common.{nat_tests, ◌≡◌, ℕ, ◌+◌, ◌*◌, ◌^◌, ◌≤◌, List, [], ◌∷◌, ◌++◌, length, map, ap, arith, None, sum_by, mul-le-mul_left, mul-le-mul_right, pow_mono, sum_by-cons, sum_by-append, one_le_pow, Literal, Product, Clause, Constraint, ProblemContent, penalty, product_pairs, clause_pairs, constraint_pairs, most_complements, slack_bits, limit_fault, Term, table_size, complements, sets_sum, sets_sum-cons, sets_sum-with_additions, Ascends-with_additions, AreFew, sets_sum-contributions, terms_size-once, opposite, own, rest, clause_term, clause_terms, product_term, square_terms, slack_form, constraint_terms, opposites_length, square, square-mono, constraint-size, image}
use Rattle.problem_form.specs.declared.limits.Normal.TheVariants as normals
use Rattle.term_table.specs.MultipliedOut as multiplied
use Rattle.penalty_layer.specs.Penalty.{plain_terms, contributions}
use Rattle.penalty_layer.specs.Penalty as penalty_method
use Rattle.normal_form.proofs.Limits.{within_limits, constraint_pairs-scaled}
use Rattle.normal_form.proofs.Complements.{complements-opposites, few-square, few-slack_form}

-- what a set is multiplied out to counts at most
abbrev grown : List Literal → ℕ
grown ls = 2 ^ complements ls * square ls

grown-append : (ts us : List Term)
    → sets_sum grown (ts ++ us) ≡ sets_sum grown ts + sets_sum grown us
grown-append ts us = sum_by-append (λ (t : Term). grown t.0) ts us

grown-few : (most : ℕ) (ts : List Term) → AreFew most ts
    → sets_sum grown ts ≤ 2 ^ most * sets_sum square ts
grown-few most [] few = omega arith
grown-few most (t ∷ ts) few =
    let right = mul-le-mul_right (square t.0) (pow_mono few.0) in
    let same = ap (λ m. 2 ^ most * m) (sets_sum-cons square t ts) in
    omega (arith, grown-few most ts few.1, sets_sum-cons grown t ts)

-- ---- products and clauses

products-grown : (ts : List Product)
    → sets_sum grown (map product_term ts) ≡ sum_by (product_pairs normals.Multilinear) ts
products-grown [] = omega arith
products-grown (t ∷ ts) = omega (arith, products-grown ts, sets_sum-cons, sum_by-cons)

clauses-grown : (n : ℕ) (ns : List ℕ) (cs : List Clause)
    → sets_sum grown (clause_terms n ns cs) ≡ sum_by (clause_pairs normals.Multilinear) cs
clauses-grown n ns [] = omega arith
clauses-grown n ns (c ∷ cs) =
    let same = ap (λ m. 2 ^ complements (map opposite c.literals) * m ^ 2) (opposites_length c.literals) in
    let more = ap (λ m. 2 ^ m * length c.literals ^ 2) (complements-opposites c.literals) in
    let sets = sets_sum-cons grown (clause_term (own n ns) c) (clause_terms n (rest ns) cs) in
    omega (arith, clauses-grown n (rest ns) cs, sum_by-cons (clause_pairs normals.Multilinear) c cs)

-- ---- constraints

constraint-grown : (n first : ℕ) (k : Constraint)
    → sets_sum grown (square_terms n (slack_form first k)) + slack_bits k
    ≤ 2 * constraint_pairs normals.Multilinear k
constraint-grown n first k =
    let m = most_complements k in
    let few = few-square m (2 * m) n (slack_form first k) (omega arith) (few-slack_form first k) in
    let most = grown-few (2 * m) (square_terms n (slack_form first k)) few in
    let left = mul-le-mul_left (2 ^ (2 * m)) (constraint-size n first k) in
    let right = mul-le-mul_right (slack_bits k) (one_le_pow (2 * m)) in
    omega (arith, most, left, right, constraint_pairs-scaled k)

constraints-grown : (n : ℕ) (ns : List ℕ) (first : ℕ) (ks : List Constraint)
    → sets_sum grown (constraint_terms n ns first ks) + sum_by slack_bits ks
    ≤ 2 * sum_by (constraint_pairs normals.Multilinear) ks
constraints-grown n ns first [] = omega arith
constraints-grown n ns first (k ∷ ks) =
    let others = constraints-grown n (rest ns) (first + slack_bits k) ks in
    omega (arith, grown-append, constraint-grown (own n ns) first k, others, sum_by-cons)

-- ---- the whole

plain-grown : (p : ProblemContent) → sets_sum grown (plain_terms p)
    ≡ sum_by (product_pairs normals.Multilinear) p.objective + sum_by (clause_pairs normals.Multilinear) p.clauses
plain-grown p = grind (arith, nat_tests, sets_sum-cons, grown-append, products-grown, clauses-grown)

pub size_within : (p : ProblemContent) → limit_fault normals.Multilinear p ≡ None
    → table_size (image p) ≤ 2 ^ 26
size_within p none =
    let limits = within_limits p none in
    let first = (penalty_method.image p).terms in
    let once =
    terms_size-once (image p).terms (Ascends-with_additions (multiplied.contributions first)) in
    let sums = sets_sum-with_additions square (multiplied.contributions first) in
    let grows = sets_sum-contributions (λ n. n ^ 2) square-mono first in
    let all = sets_sum-with_additions grown (contributions p) in
    let both =
    grown-append (plain_terms p) (constraint_terms (penalty p) p.penalties.constraints p.variables p.constraints) in
    let squared = constraints-grown (penalty p) p.penalties.constraints p.variables p.constraints in
    omega (arith, limits.variables, limits.pairs, once, sums, grows, all, both, plain-grown p, squared)
