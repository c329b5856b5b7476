-- The size of an image is at most the variables, twice the pairs, and 1.
--
-- A union of two sets of at most d literals has at most 2d, so a square of m terms gives at most
-- 2m² - m times d² in squares of degrees: each pair counts once, and its union's square is at most
-- 4d². What is spared pays for the slack bits.
use Rattle.penalty_layer.proofs.Common.{◌≡◌, ℕ, suc, ◌+◌, ◌*◌, ◌^◌, ◌≤◌, Bool, List, [], ◌∷◌, ◌++◌, length, map, pos, ◌*ℤ◌, ap, ◌∙◌, refl, arith, None, if◌then◌else◌, sum_by, AllByRecursion, nat_tests, length-append, length-map, sum_by-cons, sum_by-append, mul-le, Literal, Product, Clause, Constraint, ProblemContent, penalty, product_pairs, clause_pairs, constraint_pairs, constraint_degree, summands, slack_range, slack_bits, limit_fault, Term, Ascends, table_size, union, scaled, product_terms, products_with, sets_sum, sets_sum-cons, sets_sum-with_additions, terms_size-once, length-union, own, rest, clause_terms, plain_terms, contributions, image, slack_weights, product_term, square_terms, slack_terms, slack_form, constraint_terms, length-slack_weights}
use Rattle.problem_form.specs.declared.limits.Normal.TheVariants as normals
use Rattle.penalty_layer.proofs.Bounds.{raised, within_limits, most_of}
use Rattle.penalty_layer.proofs.OppositeSets.{opposites_length}
use Rattle.penalty_layer.proofs.Sums.{square_is}

abbrev pub square : List Literal → ℕ
square ls = length ls ^ 2

-- ---- a square

-- no set has more than d literals
abbrev pub AreShort : ℕ → List Term → Type 0
AreShort d ts = AllByRecursion (λ t. length t.0 ≤ d) ts

pub square-mono : (a b : ℕ) → a ≤ b → a ^ 2 ≤ b ^ 2
square-mono a b h = omega (arith, mul-le a a b b h h, square_is a, square_is b)

product_terms-size : (d : ℕ) (t u : Term) → length t.0 ≤ d → length u.0 ≤ d
    → sets_sum square (product_terms t u) ≤ 4 * d ^ 2
product_terms-size d t u p q =
    let few = length-union t.0 u.0 in
    let less = square-mono (length (union t.0 u.0)) (2 * d) (omega arith) in
    let size : square (union t.0 u.0) ≤ 4 * d ^ 2 = omega (arith, less, square_is d, square_is (2 * d)) in
    grind (arith, nat_tests, sets_sum-cons)

sets_sum-append : (ts us : List Term)
    → sets_sum square (ts ++ us) ≡ sets_sum square ts + sets_sum square us
sets_sum-append ts us = sum_by-append (λ (t : Term). square t.0) ts us

products_with-size : (d : ℕ) (t : Term) (us : List Term) → length t.0 ≤ d → AreShort d us
    → sets_sum square (products_with t us) ≤ 4 * d ^ 2 * length us
products_with-size d t [] p short = omega arith
products_with-size d t (u ∷ us) p short =
    grind (arith, nat_tests, products_with-size d t us p short.1, sets_sum-append, product_terms-size)

size_step : (m q own off rest all : ℕ) → own ≤ q → off ≤ 4 * q * m
    → rest + m * q ≤ 2 * (m * m) * q → all ≡ own + (off + rest)
    → all + suc m * q ≤ 2 * (suc m * suc m) * q
size_step m q own off rest all h k l e = grind (arith, nat_tests)

square_terms-size : (n d : ℕ) (ts : List Term) → AreShort d ts
    → sets_sum square (square_terms n ts) + length ts * d ^ 2 ≤ 2 * (length ts * length ts) * d ^ 2
square_terms-size n d [] short = omega arith
square_terms-size n d (t ∷ ts) short =
    let off = products_with (scaled (pos (2 * n)) t) ts in
    size_step (length ts) (d ^ 2) (square t.0) (sets_sum square off) (sets_sum square (square_terms n ts))
    (sets_sum square (square_terms n (t ∷ ts))) (square-mono (length t.0) d short.0)
    (products_with-size d (scaled (pos (2 * n)) t) ts short.0 short.1) (square_terms-size n d ts short.1)
    (sets_sum-cons square (t.0, pos n *ℤ (t.1 *ℤ t.1)) (off ++ square_terms n ts)
    ∙ ap (λ m. square t.0 + m) (sets_sum-append off (square_terms n ts)))

-- ---- what is squared

AreShort-append : (d : ℕ) (ts us : List Term) → AreShort d ts → AreShort d us → AreShort d (ts ++ us)
AreShort-append d [] us h k = k
AreShort-append d (t ∷ ts) us h k = (h.0, AreShort-append d ts us h.1 k)

slack_terms-short : (d first : ℕ) (ws : List ℕ) → 1 ≤ d → AreShort d (slack_terms first ws)
slack_terms-short d first [] h = tt
slack_terms-short d first (w ∷ ws) h = (h, slack_terms-short d (suc first) ws h)

length-slack_terms : (first : ℕ) (ws : List ℕ) → length (slack_terms first ws) ≡ length ws
length-slack_terms first [] = refl
length-slack_terms first (w ∷ ws) = ap suc (length-slack_terms (suc first) ws)

pub length-slack_form : (first : ℕ) (k : Constraint) → length (slack_form first k) ≡ summands normals.Literal k
length-slack_form first k =
    grind (arith, nat_tests, length-append, length-slack_terms, length-slack_weights, length-map)

products-short : (d : ℕ) (ts : List Product)
    → AllByRecursion (λ n. n ≤ d) (map (λ (t : Product). length t.literals) ts)
    → AreShort d (map product_term ts)
products-short d [] h = tt
products-short d (t ∷ ts) h = (h.0, products-short d ts h.1)

pub slack_form-short : (d first : ℕ) (k : Constraint) → constraint_degree k ≤ d → 1 ≤ d
    → AreShort d (slack_form first k)
slack_form-short d first k most one =
    let all = (most_of 0 (map (λ (t : Product). length t.literals) k.products)).1 in
    let products =
    raised (λ (t : Term). length t.0) (constraint_degree k) d (map product_term k.products) most
    (products-short (constraint_degree k) k.products all) in
    AreShort-append d (map product_term k.products) _ products
    (omega arith, slack_terms-short d first (slack_weights (slack_range k)) one)

-- what the pairs of a constraint are the square of the summands times
abbrev pub spread : Bool → ℕ → ℕ
spread linear d = if linear then 1 else 4 * d ^ 2

-- the squares of degrees, and the slack bits, are at most twice the pairs
pub constraint-size : (n first : ℕ) (k : Constraint)
    → sets_sum square (square_terms n (slack_form first k)) + slack_bits k
    ≤ 2 * constraint_pairs normals.Literal k
constraint-size n first k =
    let d = constraint_degree k in
    let m = summands normals.Literal k in
    let e = length-slack_form first k in
    let form = slack_form first k in
    let all = sets_sum square (square_terms n form) + slack_bits k in
    let low : d ≤ 1 → all ≤ 2 * m ^ 2 =
    λ h. omega (arith, square_terms-size n 1 form (slack_form-short 1 first k h (omega arith)), e, ap (λ x. x * x) e, square_is m) in
    let high : 1 ≤ d → all ≤ 2 * (m ^ 2 * (4 * d ^ 2)) =
    λ h.
    let terms = square_terms-size n d form (slack_form-short d first k (omega arith) h) in
    let more = mul-le m 1 m (d ^ 2) (omega arith) (omega (arith, square-mono 1 d h)) in
    omega (arith, ap (λ x. x * d ^ 2) e, ap (λ x. 2 * (x * x) * d ^ 2) e, ap (λ x. x * d ^ 2) (square_is m)) in
    grind (arith, nat_tests, low, high)

constraint_terms-size : (n : ℕ) (ns : List ℕ) (first : ℕ) (ks : List Constraint)
    → sets_sum square (constraint_terms n ns first ks) + sum_by slack_bits ks
    ≤ 2 * sum_by (constraint_pairs normals.Literal) ks
constraint_terms-size n ns first [] = omega arith
constraint_terms-size n ns first (k ∷ ks) =
    let others = constraint_terms-size n (rest ns) (first + slack_bits k) ks in
    omega (arith, sets_sum-append, constraint-size (own n ns) first k, sum_by-cons)

-- ---- the whole

products_squares : (ts : List Product)
    → sets_sum square (map product_term ts) ≡ sum_by (product_pairs normals.Literal) ts
products_squares [] = omega arith
products_squares (t ∷ ts) = omega (arith, products_squares ts, sets_sum-cons, sum_by-cons)

clauses_squares : (n : ℕ) (ns : List ℕ) (cs : List Clause)
    → sets_sum square (clause_terms n ns cs) ≡ sum_by (clause_pairs normals.Literal) cs
clauses_squares n ns [] = omega arith
clauses_squares n ns (c ∷ cs) =
    let others = clauses_squares n (rest ns) cs in simp sum_by-cons (grind (arith, nat_tests, opposites_length, sets_sum-cons))

plain-squares : (p : ProblemContent) → sets_sum square (plain_terms p)
    ≡ sum_by (product_pairs normals.Literal) p.objective + sum_by (clause_pairs normals.Literal) p.clauses
plain-squares p =
    grind (arith, nat_tests, sets_sum-cons, sets_sum-append, products_squares, clauses_squares)

-- the squares of all degrees are at most twice the pairs
pub contributions_squares : (p : ProblemContent) → limit_fault normals.Literal p ≡ None
    → sets_sum square (contributions p) ≤ 2 ^ 25
contributions_squares p none =
    grind (arith, nat_tests, within_limits, sets_sum-append, plain-squares, constraint_terms-size)

-- the variables, twice the pairs, and 1
pub size_within : (p : ProblemContent) → limit_fault normals.Literal p ≡ None → Ascends (image p).terms
    → table_size (image p) ≤ 2 ^ 26
size_within p none ascends =
    let within = within_limits p none in
    let once = terms_size-once (image p).terms ascends in
    let constraints = constraint_terms-size (penalty p) p.penalties.constraints p.variables p.constraints in
    omega (arith, sets_sum-with_additions square (contributions p), sets_sum-append, plain-squares p)
