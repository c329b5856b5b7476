-- No set that a problem within the limits contributes has more than 8 complements.
--
-- A union has no more than both sets together, so the square of a constraint has at most twice as
-- many as its products.
use Rattle.normal_form.proofs.Common.{nat_tests, ◌≡◌, ℕ, suc, ◌+◌, ◌*◌, ◌≤◌, not, cond, pos, List, [], ◌∷◌, ◌++◌, map, fold, max, count_by, refl, sym, subst, arith, AllByRecursion, append-nil, sum_by-cons, sum_by-append, Literal, Product, Clause, Constraint, with_literal, literal_set, ProblemContent, clause_complements, most_complements, negations, penalty, slack_range, slack_bits, Term, union, scaled, product_terms, products_with, complements, AreFew, complements-cons, opposite, own, rest, clause_terms, slack_weights, product_term, square_terms, node, slack_terms, slack_form, constraint_terms, AtMost, most_of, of_map, raised}
use Rattle.problem_form.specs.declared.limits.Normal.TheVariants as normals
use Rattle.problem_form.specs.Limits as limits
use Rattle.penalty_layer.specs.Penalty.{plain_terms, contributions}

-- ---- unions

complements-with_literal : (l : Literal) (ks : List Literal)
    → complements (with_literal l ks) ≤ cond l.negated 1 0 + complements ks
complements-with_literal l [] = omega (arith, complements-cons l [])
complements-with_literal l (k ∷ ks) =
    let rest = complements-with_literal l ks in
    let front = complements-cons l (k ∷ ks) in
    let more = complements-cons k (with_literal l ks) in
    let here = complements-cons k ks in
    grind (arith, nat_tests)

complements-literal_set : (ls : List Literal) → complements (literal_set ls) ≤ complements ls
complements-literal_set [] = omega arith
complements-literal_set (l ∷ ls) =
    omega (arith, complements-with_literal, complements-literal_set ls, complements-cons)

complements-union : (ls ks : List Literal)
    → complements (union ls ks) ≤ complements ls + complements ks
complements-union ls ks = omega (arith, complements-literal_set, sum_by-append)

-- the complements of a clause's literals are complements where the literals are not
pub complements-opposites : (ls : List Literal)
    → complements (map opposite ls) ≡ count_by (λ l. not l.negated) ls
complements-opposites [] = refl
complements-opposites (l ∷ ls) =
    omega (arith, complements-opposites ls, complements-cons, sum_by-cons)

-- ---- lists of terms

few-append : (most : ℕ) (ts us : List Term) → AreFew most ts → AreFew most us
    → AreFew most (ts ++ us)
few-append most [] us h k = k
few-append most (t ∷ ts) us h k = (h.0, few-append most ts us h.1 k)

few-products : (most : ℕ) (ts : List Product) → AtMost limits.complements most ts
    → AreFew most (map product_term ts)
few-products most [] h = tt
few-products most (t ∷ ts) h = (h.0, few-products most ts h.1)

few-clauses : (most n : ℕ) (ns : List ℕ) (cs : List Clause) → AtMost clause_complements most cs
    → AreFew most (clause_terms n ns cs)
few-clauses most n ns [] h = tt
few-clauses most n ns (c ∷ cs) h =
    (omega (arith, h.0, complements-opposites c.literals), few-clauses most n (rest ns) cs h.1)

few-slack : (most first : ℕ) (ws : List ℕ) → AreFew most (slack_terms first ws)
few-slack most first [] = tt
few-slack most first (w ∷ ws) =
    (omega (arith, complements-cons (node first) []), few-slack most (suc first) ws)

-- ---- squares

few-product : (one most : ℕ) (t u : Term) → 2 * one ≤ most → complements t.0 ≤ one
    → complements u.0 ≤ one → AreFew most (product_terms t u)
few-product one most t u twice h k = grind (arith, nat_tests, complements-union)

few-products_with : (one most : ℕ) (t : Term) (us : List Term) → 2 * one ≤ most
    → complements t.0 ≤ one → AreFew one us → AreFew most (products_with t us)
few-products_with one most t [] twice h k = tt
few-products_with one most t (u ∷ us) twice h k =
    few-append most (product_terms t u) (products_with t us) (few-product one most t u twice h k.0)
    (few-products_with one most t us twice h k.1)

pub few-square : (one most n : ℕ) (ts : List Term) → 2 * one ≤ most → AreFew one ts
    → AreFew most (square_terms n ts)
few-square one most n [] twice h = tt
few-square one most n (t ∷ ts) twice h = (
  omega (arith, twice, h.0),
  few-append most (products_with (scaled (pos (2 * n)) t) ts) (square_terms n ts)
      (few-products_with one most (scaled (pos (2 * n)) t) ts twice h.0 h.1)
      (few-square one most n ts twice h.1),
)

at_most_all : {X : Type 0} (f : X → ℕ) (xs : List X) (most : ℕ) → fold max 0 (map f xs) ≤ most
    → AtMost f most xs
at_most_all f xs most h =
    let all = (most_of 0 (map f xs)).1 in
    let each = of_map f (fold max 0 (map f xs)) xs [] (subst (AllByRecursion (λ n. n ≤ fold max 0 (map f xs))) (sym (append-nil (map f xs))) all) in
    raised f (fold max 0 (map f xs)) most xs h each.0

-- what is squared for a constraint has no more complements than its products
pub few-slack_form : (first : ℕ) (k : Constraint) → AreFew (most_complements k) (slack_form first k)
few-slack_form first k =
    few-append _ (map product_term k.products) _
    (few-products _ k.products (at_most_all limits.complements k.products _ (omega arith)))
    (omega arith, few-slack _ first (slack_weights (slack_range k)))

few-constraints : (most n : ℕ) (ns : List ℕ) (first : ℕ) (ks : List Constraint)
    → AtMost (λ k. 2 * most_complements k) most ks → AreFew most (constraint_terms n ns first ks)
few-constraints most n ns first [] h = tt
few-constraints most n ns first (k ∷ ks) h =
    few-append most (square_terms (own n ns) (slack_form first k))
    (constraint_terms n (rest ns) (first + slack_bits k) ks)
    (few-square (most_complements k) most (own n ns) (slack_form first k) h.0 (few-slack_form first k))
    (few-constraints most n (rest ns) (first + slack_bits k) ks h.1)

-- ---- the whole

twice_most : (most : ℕ) (ks : List Constraint) → AtMost most_complements most ks
    → AtMost (λ k. 2 * most_complements k) (2 * most) ks
twice_most most [] h = tt
twice_most most (k ∷ ks) h = (omega (arith, h.0), twice_most most ks h.1)

pub few-contributions : (p : ProblemContent) → negations normals.Multilinear p ≤ 8
    → AreFew 8 (contributions p)
few-contributions p h =
    let all = (most_of 0 sums).1 in
    let products = of_map limits.complements (fold max 0 sums) p.objective (map clause_complements p.clauses) all in
    let clauses = of_map clause_complements (fold max 0 sums) p.clauses [] (subst (AllByRecursion (λ n. n ≤ fold max 0 sums)) (sym (append-nil (map clause_complements p.clauses))) products.1) in
    few-append 8 (plain_terms p) (constraint_terms (penalty p) p.penalties.constraints p.variables p.constraints) (
      omega arith,
      few-append 8 (map product_term p.objective) (clause_terms (penalty p) p.penalties.clauses p.clauses)
          (few-products 8 p.objective (raised _ _ _ p.objective (omega (arith, h)) products.0))
          (few-clauses 8 (penalty p) p.penalties.clauses p.clauses (raised _ _ _ p.clauses (omega (arith, h)) clauses.0)),
    ) (few-constraints 8 (penalty p) p.penalties.constraints p.variables p.constraints (raised _ _ _ p.constraints (omega (arith, h))
    (twice_most square p.constraints (at_most_all most_complements p.constraints square (omega arith)))))
  where
    sums : List ℕ
    sums = map limits.complements p.objective ++ map clause_complements p.clauses

    square : ℕ
    square = fold max 0 (map most_complements p.constraints)
