-- How much a table grows: the sizes of the coefficients, the nodes, and the squares of the degrees.
use Rattle.monomial_layer.proofs.Common.{cases_Bool, cases_lt, ◌≡◌, ℕ, zero, suc, ◌+◌, ◌-◌, ◌*◌, ◌^◌, ◌<◌, ◌≤◌, ◌⊎◌, inl, inr, arith, ap, ◌∙◌, refl, List, [], ◌∷◌, ◌++◌, length, ℤ, pos, ◌*ℤ◌, neg_ℤ, unsigned_abs, int_lt, AllByRecursion, sum_by, recursion_from_All, sum_by-cons, sum_by-append, nat_tests, ints, unsigned_abs-mul, mul-le-mul_left, mul-le-mul_right, pow-succ', pow-zero, Literal, Term, terms_total, terms_size, set_size, IsTermSet, TableContent, IsTable, table_size, terms_total-cons, terms_total-append, terms_size-cons, terms_total-with_additions, terms_size-with_additions, node, each_with, pair_terms, factor, node_term, node_terms, nodes_for, positive_terms, negative_terms, new_nodes, new_terms, all_new_terms, image, pairs, pairs_is, factor_cases, map}

-- ---- the sizes of the coefficients

abs_neg : (c : ℤ) → unsigned_abs (neg_ℤ c) ≡ unsigned_abs c
abs_neg c = omega (arith, ints)

pub abs_times : (c : ℤ) (n : ℕ) → unsigned_abs (c *ℤ pos n) ≡ unsigned_abs c * n
abs_times c n = unsigned_abs-mul c (pos n)

-- of the same coefficient with each set
total-each : (f : Literal → List Literal) (c : ℤ) (ks : List Literal)
    → terms_total (map (λ k. (f k, c)) ks) ≡ unsigned_abs c * length ks
total-each f c [] = omega arith
total-each f c (k ∷ ks) =
    omega (arith, total-each f c ks, terms_total-cons (f k, c) (map (λ l. (f l, c)) ks))

total-pair_terms : (ls : List Literal) (c : ℤ)
    → terms_total (pair_terms ls c) ≡ unsigned_abs c * pairs (length ls)
total-pair_terms [] c = omega arith
total-pair_terms (l ∷ ls) c =
    omega (arith, total-pair_terms ls c, total-each (λ k. l ∷ k ∷ []) c ls, terms_total-append)

total-node_term : (ls : List Literal) (c : ℤ) (w : Literal) (k : ℕ)
    → terms_total (node_term ls c w k) ≡ unsigned_abs c * (factor (length ls) k * (2 * k + 2) - 1)
    + unsigned_abs c * factor (length ls) k * length ls
total-node_term ls c w k =
    let f = factor (length ls) k in
    let head : Term = (w ∷ [], c *ℤ pos (f * (2 * k + 2) - 1)) in
    let tail = each_with ls w (neg_ℤ (c *ℤ pos f)) in
    let each : terms_total tail ≡ unsigned_abs c * f * length ls =
    total-each (λ k. k ∷ w ∷ []) (neg_ℤ (c *ℤ pos f)) ls
    ∙ ap (λ x. x * length ls) (abs_neg (c *ℤ pos f) ∙ abs_times c f) in
    omega (arith, terms_total-cons head tail, abs_times c (f * (2 * k + 2) - 1), each)

-- where a node's terms fit, so does its weight with each literal
pub pair_weight-fits : (ls : List Literal) (c : ℤ) (w : Literal) (k before n : ℕ)
    → before + terms_total (node_term ls c w k) ≤ n
    → unsigned_abs (c *ℤ pos (factor (length ls) k)) ≤ n
pair_weight-fits ls c w k before n small =
    grind (arith, nat_tests, ints, total-node_term ls c w k, factor_cases (length ls) k)

pub node_weight-fits : (ls : List Literal) (c head : ℤ) (w : Literal) (k before n : ℕ)
    → head ≡ c *ℤ pos (factor (length ls) k * (2 * k + 2) - 1)
    → before + terms_total (node_term ls c w k) ≤ n → before + unsigned_abs head ≤ n
node_weight-fits ls c head w k before n weight small =
    omega (arith, small, ap unsigned_abs weight, terms_total-cons)

pub negative_weight-fits : (ls : List Literal) (c head : ℤ) (next before n : ℕ)
    → head ≡ neg_ℤ (c *ℤ pos (length ls - 1))
    → before + terms_total (negative_terms ls c next) ≤ n → before + unsigned_abs head ≤ n
negative_weight-fits ls c head next before n weight small =
    omega (arith, small, ap unsigned_abs weight, terms_total-cons)

-- what one node of factor f adds to the bound at k, where x is the coefficient's size and d the
-- degree
one_more : (x f k d : ℕ) → (f ≡ 1) ⊎ (f ≡ 2)
    → x * (2 * (k * k) + k + 2 * (k * d)) + (x * (f * (2 * k + 2) - 1) + x * f * d)
    ≤ x * (2 * (suc k * suc k) + suc k + 2 * (suc k * d))
one_more x f k d (inl e) =
    let g : 1 * (2 * k + 2) - 1 ≡ 2 * k + 1 = omega arith in rw (e, g) (omega arith)
one_more x f k d (inr e) =
    let g : 2 * (2 * k + 2) - 1 ≡ 4 * k + 3 = omega arith in rw (e, g) (omega arith)

total-node_terms : (ls : List Literal) (c : ℤ) (n k : ℕ)
    → terms_total (node_terms ls c n k) ≤ unsigned_abs c * (2 * (k * k) + k + 2 * (k * length ls))
total-node_terms ls c n zero = omega arith
total-node_terms ls c n (suc k) =
    let own = total-node_term ls c (node (n + k)) k in
    let more = one_more (unsigned_abs c) (factor (length ls) k) k (length ls) (factor_cases (length ls) k) in
    simp terms_total-append (omega (arith, own, total-node_terms ls c n k, more))

-- the nodes after others only add
pub total-more_nodes : (ls : List Literal) (c : ℤ) (m k n : ℕ) → k < n
    → terms_total (node_terms ls c m k) + terms_total (node_term ls c (node (m + k)) k)
    ≤ terms_total (node_terms ls c m n)
total-more_nodes ls c m k zero less = absurd (omega arith)
total-more_nodes ls c m k (suc n) less =
    let last = terms_total-append (node_terms ls c m n) (node_term ls c (node (m + n)) n) in
    elim (cases_lt k n) [
      | inl before ↦ omega (arith, last, total-more_nodes ls c m k n before)
      | inr after ↦ let same : k ≡ n = omega (arith, less, after) in rw same (omega (arith, last))
    ]

whole_bound : (x d n : ℕ) → 2 * n + 1 ≤ d
    → x * pairs d + x * (2 * (n * n) + n + 2 * (n * d)) ≤ x * (2 * (d * d))
whole_bound x d n h =
    let inner : pairs d + (2 * (n * n) + n + 2 * (n * d)) ≤ 2 * (d * d) =
    omega (arith, mul-le-mul_left n h, mul-le-mul_left d h, pairs_is d) in
    omega (arith, mul-le-mul_left x inner)

total-positive_terms : (ls : List Literal) (c : ℤ) (n : ℕ) → 3 ≤ length ls
    → terms_total (positive_terms ls c n) ≤ unsigned_abs c * (2 * (length ls * length ls))
total-positive_terms ls c n high =
    grind (arith, nat_tests, ints, terms_total-append, total-pair_terms, total-node_terms, whole_bound)

total-negative_terms : (ls : List Literal) (c : ℤ) (n : ℕ) → 1 ≤ length ls
    → terms_total (negative_terms ls c n) + unsigned_abs c ≡ unsigned_abs c * (2 * length ls)
total-negative_terms ls c n some =
    let d = length ls in
    let head : unsigned_abs (neg_ℤ (c *ℤ pos (d - 1))) ≡ unsigned_abs c * (d - 1) =
    abs_neg (c *ℤ pos (d - 1)) ∙ abs_times c (d - 1) in
    let one : (d - 1) + 1 ≡ d = omega arith in
    let each = total-each (λ k. k ∷ node n ∷ []) c ls in
    omega (arith, terms_total-cons, head, ap (λ m. unsigned_abs c * m) one)

squared : (d : ℕ) → d ≤ 2048 → 2 * (d * d) ≤ 2 ^ 24
squared d short = grind (arith, nat_tests)

-- each coefficient grows at most by 2 ^ 24
pub total-new_terms : (t : Term) (n : ℕ) → length t.0 ≤ 2048
    → terms_total (new_terms t n) ≤ unsigned_abs t.1 * 2 ^ 24
total-new_terms t n short =
    grind (arith, nat_tests, terms_total-cons, total-negative_terms, mul-le-mul_left, total-positive_terms, squared)

-- ---- nodes

pub nodes-few : (t : Term) → 3 ≤ length t.0 → new_nodes t + 2 ≤ length t.0
nodes-few t high =
    elim (cases_Bool (int_lt t.1 (pos 0))) [
      | inl sign ↦ rw sign (grind (arith, nat_tests))
      | inr sign ↦ rw sign (grind (arith, nat_tests))
    ]

-- ---- the squares of the degrees

size-append : (ts us : List Term) → terms_size (ts ++ us) ≡ terms_size ts + terms_size us
size-append ts us = sum_by-append (λ (t : Term). set_size t.0) ts us

size-each : (f : Literal → List Literal) (c : ℤ) (ks : List Literal)
    → ((k : Literal) → set_size (f k) ≡ 4) → terms_size (map (λ k. (f k, c)) ks) ≡ 4 * length ks
size-each f c [] two = refl
size-each f c (k ∷ ks) two =
    omega (arith, two k, size-each f c ks two, terms_size-cons (f k, c) (map (λ l. (f l, c)) ks))

size-pair_terms : (ls : List Literal) (c : ℤ) → terms_size (pair_terms ls c) ≡ 4 * pairs (length ls)
size-pair_terms [] c = refl
size-pair_terms (l ∷ ls) c =
    let each = size-each (λ k. l ∷ k ∷ []) c ls (λ k. refl) in
    omega (arith, size-pair_terms ls c, size-append)

size-node_term : (ls : List Literal) (c : ℤ) (w : Literal) (k : ℕ)
    → terms_size (node_term ls c w k) ≡ 1 + 4 * length ls
size-node_term ls c w k =
    let each = size-each (λ l. l ∷ w ∷ []) (neg_ℤ (c *ℤ pos (factor (length ls) k))) ls (λ l. refl) in
    omega (arith, terms_size-cons)

size-node_terms : (ls : List Literal) (c : ℤ) (n k : ℕ)
    → terms_size (node_terms ls c n k) ≡ k * (1 + 4 * length ls)
size-node_terms ls c n zero = omega arith
size-node_terms ls c n (suc k) =
    omega (arith, size-append, size-node_term, size-node_terms ls c n k)

size-positive_terms : (ls : List Literal) (c : ℤ) (n : ℕ) → 3 ≤ length ls
    → terms_size (positive_terms ls c n) + nodes_for (length ls) ≤ 4 * (length ls * length ls)
size-positive_terms ls c n high =
    let d = length ls in
    let k = nodes_for d in
    let half : 2 * k + 1 ≤ d = omega arith in
    simp size-append
    (omega (arith, size-pair_terms ls c, size-node_terms ls c n k, pairs_is d, mul-le-mul_right (1 + 2 * d) half))

size-negative_terms : (ls : List Literal) (c : ℤ) (n : ℕ) → 3 ≤ length ls
    → terms_size (negative_terms ls c n) + 1 ≤ 4 * (length ls * length ls)
size-negative_terms ls c n high =
    let each = size-each (λ k. k ∷ node n ∷ []) c ls (λ k. refl) in
    simp terms_size-cons (omega (arith, mul-le-mul_right (length ls) high))

square_is : (n : ℕ) → n ^ 2 ≡ n * n
square_is n = pow-succ' n 1 ∙ ap (λ m. n * m) (pow-succ' n 0 ∙ ap (λ m. n * m) (pow-zero n) ∙ omega arith)

set_size-high : (ls : List Literal) → 3 ≤ length ls → set_size ls ≡ length ls * length ls
set_size-high ls high = grind (arith, nat_tests, square_is)

-- what stands for a term, and its nodes, count at most 4 times as much
size-new_terms : (t : Term) (n : ℕ) → terms_size (new_terms t n) + new_nodes t ≤ 4 * set_size t.0
size-new_terms t n =
    grind (arith, nat_tests, terms_size-cons, size-negative_terms, set_size-high, size-positive_terms)

-- ---- all terms

abbrev IsShort : Term → Type 0
IsShort t = length t.0 ≤ 2048

pub total-all_new_terms : (ts : List Term) (n : ℕ) → AllByRecursion IsShort ts
    → terms_total (all_new_terms ts n) ≤ terms_total ts * 2 ^ 24
total-all_new_terms [] n short = omega arith
total-all_new_terms (t ∷ ts) n short =
    simp (terms_total-append, terms_total-cons)
    (omega (arith, total-new_terms t n short.0, total-all_new_terms ts (n + new_nodes t) short.1))

pub size-all_new_terms : (ts : List Term) (n : ℕ)
    → terms_size (all_new_terms ts n) + sum_by new_nodes ts ≤ 4 * terms_size ts
size-all_new_terms [] n = omega arith
size-all_new_terms (t ∷ ts) n =
    simp (size-append, terms_size-cons, sum_by-cons)
    (omega (arith, size-new_terms t n, size-all_new_terms ts (n + new_nodes t)))

short_sets : (width : ℕ) (ts : List Term) → AllByRecursion (λ (t : Term). IsTermSet width t.0) ts
    → AllByRecursion IsShort ts
short_sets width [] sets = tt
short_sets width (t ∷ ts) sets = (sets.0.short, short_sets width ts sets.1)

-- ---- the width

nodes-le : (t : Term) → new_nodes t ≤ set_size t.0
nodes-le t = grind (arith, nat_tests, set_size-high, mul-le-mul_right)

pub all_nodes-le : (ts : List Term) → sum_by new_nodes ts ≤ terms_size ts
all_nodes-le [] = omega arith
all_nodes-le (t ∷ ts) = omega (arith, nodes-le, all_nodes-le ts, terms_size-cons, sum_by-cons)

-- ---- the image

pub size-image : (t : TableContent) → table_size (image t) ≤ table_size t * 4
size-image t = omega (arith, size-all_new_terms, terms_size-with_additions)

pub total-image : (t : TableContent) → IsTable t
    → terms_total (all_new_terms t.terms t.width) + 1 ≤ (terms_total t.terms + 1) * 2 ^ 24
total-image t table = grind (arith, nat_tests, short_sets, recursion_from_All, total-all_new_terms)

pub total-image_terms : (t : TableContent) → IsTable t
    → terms_total (image t).terms + 1 ≤ (terms_total t.terms + 1) * 2 ^ 24
total-image_terms t table = omega (arith, total-image, terms_total-with_additions)
