-- The total of what the parts of a problem contribute is within the counted weight.
use Rattle.penalty_layer.proofs.Common.{◌≡◌, ℕ, zero, suc, ◌+◌, ◌*◌, ◌^◌, ◌≤◌, unsigned_abs, ℤ, pos, neg_ℤ, ◌*ℤ◌, List, [], ◌∷◌, map, ap, sym, ◌∙◌, arith, None, sum_by, ints, unsigned_abs-mul, sum_by-cons, Product, Clause, Constraint, ProblemContent, products_total, binary_digits, penalty, weight, reach, slack_range, slack_bits, limit_fault, Term, terms_total, scaled, terms_total-cons, terms_total-append, terms_total-with_additions, products_with-total, Option, unwrap_or, nat_tests, mul-le, own, rest, clause_terms, plain_terms, contributions, image, clause_weights, doubled, last_weight, weights_for, slack_weights, product_term, square_terms, node, slack_terms, slack_form, constraint_terms, HasDigits, HasDigits-binary_digits}
use Rattle.problem_form.specs.declared.limits.Normal.TheVariants as normals
use Rattle.penalty_layer.proofs.Bounds.{within_limits, clause_weights_are}
pub use Rattle.penalty_layer.specs.laws.Nearest.{square_is}

-- ---- a square

square_terms-total : (n : ℕ) (ts : List Term)
    → terms_total (square_terms n ts) ≤ n * terms_total ts ^ 2
square_terms-total n [] = omega arith
square_terms-total n (t ∷ ts) =
    let own : unsigned_abs (pos n *ℤ (t.1 *ℤ t.1)) ≡ n * (unsigned_abs t.1 * unsigned_abs t.1) =
    unsigned_abs-mul (pos n) (t.1 *ℤ t.1) ∙ ap (λ m. n * m) (unsigned_abs-mul t.1 t.1) in
    let row = products_with-total (scaled (pos (2 * n)) t) ts in
    let size = ap (λ m. m * terms_total ts) (unsigned_abs-mul (pos (2 * n)) t.1) in
    let rest = square_terms-total n ts in
    let less = ap (λ m. n * m) (square_is (terms_total ts)) in
    let more = ap (λ m. n * m) (square_is (terms_total (t ∷ ts)) ∙ ap (λ m. m * m) (terms_total-cons t ts)) in
    omega (arith, terms_total-cons, terms_total-append)

-- ---- what is squared

doubled-total : (first b m last : ℕ)
    → terms_total (slack_terms first (doubled b m last)) + b ≡ b * 2 ^ m + last
doubled-total first b zero last =
    omega (arith, ints, terms_total-cons (node first ∷ [], neg_ℤ (pos last)) [])
doubled-total first b (suc m) last =
    let next : 2 ^ suc m ≡ 2 * 2 ^ m = omega arith in
    let rest = doubled-total (suc first) (2 * b) m last in
    omega (arith, ints, ap (λ x. b * x) next, terms_total-cons)

-- the slack weights sum to the range
slack-total : (first r : ℕ) → terms_total (slack_terms first (slack_weights r)) ≡ r
slack-total first r = go (binary_digits r) (HasDigits-binary_digits r)
  where
    go : (w : ℕ) → HasDigits r w → terms_total (slack_terms first (weights_for r w)) ≡ r
    go zero h = sym h
    go (suc m) h = let low = h.0 in omega (arith, doubled-total first 1 m (last_weight r m))

pub products_terms_total : (ts : List Product) → terms_total (map product_term ts) ≡ products_total ts
products_terms_total [] = omega arith
products_terms_total (t ∷ ts) = omega (arith, products_terms_total ts, terms_total-cons, sum_by-cons)

negated_size : (z : ℤ) → unsigned_abs (neg_ℤ z) ≡ unsigned_abs z
negated_size z = omega (arith, ints)

pub slack_form-total : (first : ℕ) (k : Constraint) → terms_total (slack_form first k) ≡ reach k
slack_form-total first k =
    let slack = slack_terms first (slack_weights (slack_range k)) in
    omega (arith, terms_total-append, products_terms_total, terms_total-cons, negated_size, slack-total)

pub constraint-total : (n first : ℕ) (k : Constraint)
    → terms_total (square_terms n (slack_form first k)) ≤ n * reach k ^ 2
constraint-total n first k =
    omega (arith, square_terms-total, ap (λ m. n * m ^ 2) (slack_form-total first k))

-- no part has more than the penalty of the whole
pub own-le : (n : ℕ) (ns : List ℕ) → own n ns ≤ n
own-le n [] = omega arith
own-le n (m ∷ ms) = omega arith

pub constraint_terms-total : (n : ℕ) (ns : List ℕ) (first : ℕ) (ks : List Constraint)
    → terms_total (constraint_terms n ns first ks) ≤ sum_by (λ k. n * reach k ^ 2) ks
constraint_terms-total n ns first [] = omega arith
constraint_terms-total n ns first (k ∷ ks) =
    let others = constraint_terms-total n (rest ns) (first + slack_bits k) ks in
    let less = mul-le (own n ns) (reach k ^ 2) n (reach k ^ 2) (own-le n ns) (omega arith) in
    omega (arith, terms_total-append, constraint-total (own n ns) first k, less, sum_by-cons)

-- ---- the whole

weight-le : (w : Option ℕ) (m n : ℕ) → m ≤ n → unwrap_or w m ≤ unwrap_or w n
weight-le w m n h = grind (arith, nat_tests)

pub clauses_terms_total : (n : ℕ) (ns : List ℕ) (cs : List Clause)
    → terms_total (clause_terms n ns cs) ≤ clause_weights n cs
clauses_terms_total n ns [] = omega arith
clauses_terms_total n ns (c ∷ cs) =
    let less = weight-le c.weight (own n ns) n (own-le n ns) in
    omega (arith, ints, less, clauses_terms_total n (rest ns) cs, terms_total-cons, sum_by-cons)

plain-total : (p : ProblemContent) → terms_total (plain_terms p)
    ≤ unsigned_abs p.constant + products_total p.objective + clause_weights (penalty p) p.clauses
plain-total p =
    let products = map product_term p.objective in
    let clauses = clause_terms (penalty p) p.penalties.clauses p.clauses in
    omega (
      arith,
      terms_total-cons,
      terms_total-append,
      products_terms_total,
      clauses_terms_total (penalty p) p.penalties.clauses p.clauses,
    )

pub contributions-total : (p : ProblemContent) → terms_total (contributions p) ≤ weight p
contributions-total p =
    omega (
      arith,
      terms_total-append,
      plain-total,
      clause_weights_are,
      constraint_terms-total (penalty p) p.penalties.constraints p.variables p.constraints,
    )

-- an image's total fits 64 bits
pub image-total : (p : ProblemContent) → limit_fault normals.Literal p ≡ None
    → terms_total (image p).terms + 1 ≤ 2 ^ 64
image-total p none =
    omega (arith, terms_total-with_additions, contributions-total, (within_limits p none).weight)
