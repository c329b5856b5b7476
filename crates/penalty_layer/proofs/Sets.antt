-- The sets of all that a problem contributes are sets of its image's width.
use Rattle.penalty_layer.proofs.Common.{nat_tests, ℕ, suc, ◌+◌, ◌*◌, ◌≤◌, List, [], ◌∷◌, ◌++◌, length, map, get_or, pos, neg_ℤ, ◌*ℤ◌, All, arith, AllByRecursion, flat_map, sum_by, All-from_recursion, recursion_from_All, All-cons, All-append, All-map, All-nil, sum_by-cons, Literal, IsLiteralSet, Product, Constraint, ProblemContent, penalty, degree, degrees, slack_range, slack_bits, Term, IsTermSet, scaled, products_with, IsFactor, OfSet, IsTermSet-none, IsTermSet-one, IsTermSet-wider, AreFactors, factor_set, products_with-sets, IsSet, opposite, Clause, own, rest, clause_term, clause_terms, plain_terms, contributions, node_count, Admits, slack_weights, product_term, square_terms, node, slack_terms, slack_form, constraint_terms, length-slack_weights}
use Rattle.penalty_layer.proofs.Bounds.{of_map, within_limits, degrees_within, most_of}
use Rattle.penalty_layer.proofs.OppositeSets.{opposites_set, opposites_length}

-- ---- sets of whatever width

pub is_set : (width : ℕ) (ls : List Literal) → IsLiteralSet width ls → IsSet ls
is_set width ls set = record { ordered = set.ordered; apart = set.apart }

-- ---- products and clauses

pub product_sets : (p : ProblemContent) (width : ℕ) → Admits p → p.variables ≤ width
    → All (λ t. IsTermSet width t.literals) p.objective
product_sets p width admitted wide k d h =
    let short = (degrees_within p 2048 (omega (arith, (within_limits p admitted.within).degree))).0 in
    IsTermSet-wider p.variables width (get_or p.objective k d).literals wide
    (record {
      set = (admitted.normal.objective k d h).set;
      short = All-from_recursion _ p.objective short k d h;
    })

pub clause_sets : (p : ProblemContent) (width : ℕ) → Admits p → p.variables ≤ width
    → All (λ c. IsTermSet width (map opposite c.literals)) p.clauses
clause_sets p width admitted wide k d h =
    let short = (degrees_within p 2048 (omega (arith, (within_limits p admitted.within).degree))).1 in
    IsTermSet-wider p.variables width (map opposite (get_or p.clauses k d).literals) wide
    (record {
      set = opposites_set p.variables _ (admitted.normal.clauses k d h).set;
      short = omega (arith, opposites_length (get_or p.clauses k d).literals, All-from_recursion _ p.clauses short k d h);
    })

-- ---- the products of constraints

by_right : (most : ℕ) (ms ns : List ℕ) → AllByRecursion (λ n. n ≤ most) (ms ++ ns)
    → AllByRecursion (λ n. n ≤ most) ns
by_right most [] ns h = h
by_right most (m ∷ ms) ns h = by_right most ms ns h.1

by_constraints : (most : ℕ) (ks : List Constraint)
    → AllByRecursion (λ n. n ≤ most) (flat_map (λ k. map (λ (t : Product). length t.literals) k.products) ks)
    → AllByRecursion (λ (k : Constraint). AllByRecursion (λ (t : Product). length t.literals ≤ most) k.products) ks
by_constraints most [] h = tt
by_constraints most (k ∷ ks) h =
    let parts = of_map (λ (t : Product). length t.literals) most k.products _ h in (parts.0, by_constraints most ks parts.1)

-- the products of constraints can be joined with others
pub constraint_sets : (p : ProblemContent) (width : ℕ) → Admits p → p.variables ≤ width
    → All (λ k. All (λ t. IsFactor width t.literals) k.products) p.constraints
constraint_sets p width admitted wide k d h k' d' h' =
    let most = (within_limits p admitted.within).degree in
    let all = (most_of 0 (degrees p)).1 in
    let three = by_right (degree p) _ _ all in
    let each = All-from_recursion _ p.constraints (by_constraints (degree p) p.constraints three) k d h in
    let here = All-from_recursion _ (get_or p.constraints k d).products each k' d' h' in
    let set : IsTermSet p.variables (get_or (get_or p.constraints k d).products k' d').literals =
    record { set = (admitted.normal.constraints k d h k' d' h').set; short = omega (arith, here, most) } in
    record {
      set = (IsTermSet-wider p.variables width _ wide set).set;
      short = omega (arith, here, most);
    }

pub problem_sets : (p : ProblemContent) → Admits p → All (λ k. All (λ t. IsSet t.literals) k.products) p.constraints
problem_sets p admitted k d h k' d' h' = grind (arith, nat_tests)

-- ---- what is squared

slack_terms-factors : (width first : ℕ) (ws : List ℕ) → first + length ws ≤ width
    → All (λ t. IsFactor width t.0) (slack_terms first ws)
slack_terms-factors width first [] h = All-nil (λ (t : Term). IsFactor width t.0)
slack_terms-factors width first (w ∷ ws) h =
    All-cons (λ (t : Term). IsFactor width t.0) (node first ∷ [], neg_ℤ (pos w)) (slack_terms (suc first) ws)
    (record { set = (IsTermSet-one width (node first) (omega arith)).set; short = omega arith })
    (slack_terms-factors width (suc first) ws (omega arith))

-- the products, the bound and the slack bits of a constraint
pub slack_form-factors : (width first : ℕ) (k : Constraint)
    → All (λ t. IsFactor width t.literals) k.products → first + slack_bits k ≤ width
    → All (λ t. IsFactor width t.0) (slack_form first k)
slack_form-factors width first k products h =
    let P : Term → Type 0 = λ t. IsFactor width t.0 in
    let ws = slack_weights (slack_range k) in
    let bound : IsFactor width [] = record { set = (IsTermSet-none width).set; short = omega arith } in
    All-append P (map product_term k.products) (([], neg_ℤ k.bound) ∷ slack_terms first ws)
    (All-map P product_term k.products products)
    (All-cons P ([], neg_ℤ k.bound) (slack_terms first ws) bound
    (slack_terms-factors width first ws (omega (arith, h, length-slack_weights (slack_range k)))))

-- they are sets, of whatever width
pub slack_form-sets : (first : ℕ) (k : Constraint) → All (λ t. IsSet t.literals) k.products
    → All (λ t. IsSet t.0) (slack_form first k)
slack_form-sets first k products =
    let P : Term → Type 0 = λ t. IsSet t.0 in
    All-append P (map product_term k.products) (([], neg_ℤ k.bound) ∷ slack_terms first (slack_weights (slack_range k)))
    (All-map P product_term k.products products)
    (All-cons P ([], neg_ℤ k.bound) (slack_terms first (slack_weights (slack_range k))) (is_set 0 [] (IsTermSet-none 0).set)
    (slack first (slack_weights (slack_range k))))
  where
    slack : (n : ℕ) (ws : List ℕ) → All (λ (t : Term). IsSet t.0) (slack_terms n ws)
    slack n [] = All-nil (λ (t : Term). IsSet t.0)
    slack n (w ∷ ws) =
        All-cons (λ (t : Term). IsSet t.0) (node n ∷ [], neg_ℤ (pos w)) (slack_terms (suc n) ws)
        (is_set (suc n) (node n ∷ []) (IsTermSet-one (suc n) (node n) (omega arith)).set)
        (slack (suc n) ws)

square_terms-sets : (width n : ℕ) (ts : List Term) → AreFactors width ts
    → All (OfSet (IsTermSet width)) (square_terms n ts)
square_terms-sets width n [] h = All-nil (OfSet (IsTermSet width))
square_terms-sets width n (t ∷ ts) h =
    let P = OfSet (IsTermSet width) in
    let off = products_with (scaled (pos (2 * n)) t) ts in
    All-cons P (t.0, pos n *ℤ (t.1 *ℤ t.1)) (off ++ square_terms n ts) (factor_set width t.0 h.0)
    (All-append P off (square_terms n ts) (products_with-sets width (scaled (pos (2 * n)) t) ts h.0 h.1)
    (square_terms-sets width n ts h.1))

constraint_terms-sets : (width n : ℕ) (ns : List ℕ) (first : ℕ) (ks : List Constraint)
    → AllByRecursion (λ (k : Constraint). All (λ (t : Product). IsFactor width t.literals) k.products) ks
    → first + sum_by slack_bits ks ≤ width
    → All (OfSet (IsTermSet width)) (constraint_terms n ns first ks)
constraint_terms-sets width n ns first [] h within = All-nil (OfSet (IsTermSet width))
constraint_terms-sets width n ns first (k ∷ ks) h within =
    let more = sum_by-cons slack_bits k ks in
    let factors = slack_form-factors width first k h.0 (omega (arith, within, more)) in
    All-append (OfSet (IsTermSet width)) (square_terms (own n ns) (slack_form first k))
    (constraint_terms n (rest ns) (first + slack_bits k) ks) (square_terms-sets width (own n ns) (slack_form first k)
    (recursion_from_All (λ (t : Term). IsFactor width t.0) (slack_form first k) factors))
    (constraint_terms-sets width n (rest ns) (first + slack_bits k) ks h.1 (omega (arith, within, more)))

-- ---- the whole

clause_terms-sets : (width n : ℕ) (ns : List ℕ) (cs : List Clause)
    → AllByRecursion (λ (c : Clause). IsTermSet width (map opposite c.literals)) cs
    → All (OfSet (IsTermSet width)) (clause_terms n ns cs)
clause_terms-sets width n ns [] h = All-nil (OfSet (IsTermSet width))
clause_terms-sets width n ns (c ∷ cs) h =
    All-cons (OfSet (IsTermSet width)) (clause_term (own n ns) c) (clause_terms n (rest ns) cs) h.0
    (clause_terms-sets width n (rest ns) cs h.1)

plain_sets : (p : ProblemContent) → Admits p → All (OfSet (IsTermSet (node_count p))) (plain_terms p)
plain_sets p admitted =
    let P = OfSet (IsTermSet (node_count p)) in
    let wide : p.variables ≤ node_count p = omega arith in
    All-cons P ([], p.constant) _ (IsTermSet-none (node_count p))
    (All-append P (map product_term p.objective) (clause_terms (penalty p) p.penalties.clauses p.clauses)
    (All-map P product_term p.objective (product_sets p (node_count p) admitted wide))
    (clause_terms-sets (node_count p) (penalty p) p.penalties.clauses p.clauses
    (recursion_from_All _ p.clauses (clause_sets p (node_count p) admitted wide))))

pub contribution_sets : (p : ProblemContent) → Admits p
    → All (OfSet (IsTermSet (node_count p))) (contributions p)
contribution_sets p admitted =
    let wide : p.variables ≤ node_count p = omega arith in
    All-append (OfSet (IsTermSet (node_count p))) (plain_terms p)
    (constraint_terms (penalty p) p.penalties.constraints p.variables p.constraints) (plain_sets p admitted)
    (constraint_terms-sets (node_count p) (penalty p) p.penalties.constraints p.variables p.constraints
    (recursion_from_All _ p.constraints (constraint_sets p (node_count p) admitted wide)) (omega arith))
