-- Sets of at most two variables in order are term sets.
use Rattle.quad_form.proofs.Common.{ℕ, List, [], ◌∷◌, Literal, IsTermSet, IsTermSet-none, IsTermSet-one, IsTermSet-two, IsFlat, nat_tests, ints, ◌*◌, ◌≤◌, ℤ, unsigned_abs, length, arith, AllByRecursion, sum_by-append, count_by-le-length, Term, set_size, terms_total, terms_size, plain_terms, contributions, terms_total-cons, terms_size-cons, sets_sum, plain_terms-grow, elements, ◌≡◌, ◌≢◌, zero, suc, ◌+◌, ◌<◌, ◌^◌, Bool, pos, ◌+ℤ◌, ◌++◌, replicate, All, sum_by, fold, refl, sym, ◌∙◌, if◌then◌else◌, append_assoc, append-nil, slice_index_or, IsStrictlySortedBy, slice_set, int_eq, length-replicate, All-from_recursion, recursion_from_All, sum_by-cons, sum_by_push, size-plus, Entry, entry_cmp, entry_size, weight_total, with_additions, Ascends, AreTerms, TableContent, IsLow, table_size, terms_total-with_additions, sets_sum-cons, sets_sum-with_additions, OfSet, Under, QuadContent, node_entries, quad_total, quad_size, IsCoupler, IsQuad, pair_entry, with_term, zero_quad, quad_of, image, length-fold, length-image, Less}

pub IsTermSet-flat : (width : ℕ) (ls : List Literal) → IsFlat width ls → IsTermSet width ls
IsTermSet-flat width [] flat = IsTermSet-none width
IsTermSet-flat width (l ∷ []) flat = IsTermSet-one width l flat.within
IsTermSet-flat width (l ∷ k ∷ []) flat = IsTermSet-two width l k flat.2 flat.1.within
IsTermSet-flat width (l ∷ k ∷ m ∷ ls) flat = absurd flat

-- How much a term grows where it is multiplied out: its coefficient to at most 4 times as much, and
-- what it adds to a form's size to at most twice the square of its degree.

abbrev IsShort : Term → Type 0
IsShort t = length t.0 ≤ 2

-- what a set adds to the size of a quadratic form beside its nodes: 1 for a constant, 4 for a
-- coupler
abbrev pub form_size : List Literal → ℕ
form_size [] = 1
form_size (l ∷ []) = 0
form_size (l ∷ k ∷ ls) = 4

terms_total-plain_terms : (ls : List Literal) (c : ℤ) → length ls ≤ 2
    → terms_total (plain_terms ls c) ≤ 4 * unsigned_abs c
terms_total-plain_terms ls c short =
    grind (arith, nat_tests, ints, count_by-le-length, plain_terms-grow)

form_size-plain_terms : (ls : List Literal) (c : ℤ) → length ls ≤ 2
    → sets_sum form_size (plain_terms ls c) ≤ 2 * set_size ls
form_size-plain_terms (l ∷ k ∷ m ∷ ls) c short = absurd (omega arith)
form_size-plain_terms ls c short = grind (arith, nat_tests, ints)

pub terms_total-contributions : (ts : List Term) → AllByRecursion IsShort ts
    → terms_total (contributions ts) ≤ 4 * terms_total ts
terms_total-contributions [] low = omega arith
terms_total-contributions (t ∷ ts) low =
    simp (sum_by-append, terms_total-cons)
    (omega (arith, terms_total-plain_terms t.0 t.1 low.0, terms_total-contributions ts low.1))

pub form_size-contributions : (ts : List Term) → AllByRecursion IsShort ts
    → sets_sum form_size (contributions ts) ≤ 2 * terms_size ts
form_size-contributions [] low = omega arith
form_size-contributions (t ∷ ts) low =
    simp (sum_by-append, terms_size-cons)
    (omega (arith, form_size-plain_terms t.0 t.1 low.0, form_size-contributions ts low.1))

-- The quadratic form of a table over variables: what it keeps, and how large it is.
--
-- Each measure of a form grows, where a term is placed, by at most that of the term. The couplers
-- are the entries of the pairs, in the order of the table.

-- ---- the sum of the sizes

abbrev size : Entry → ℕ
size e = unsigned_abs e.weight

-- a node's weight that grows
weights-grown : (n i : ℕ) (ws : List ℤ) (c : ℤ)
    → weight_total (node_entries n (slice_set ws i (slice_index_or ws i (pos 0) +ℤ c)))
    ≤ weight_total (node_entries n ws) + unsigned_abs c
weights-grown n i [] c = omega arith
weights-grown n zero (w ∷ ws) c =
    let old : Entry = record { first = n; second = n; weight = w } in
    let new : Entry = record { first = n; second = n; weight = w +ℤ c } in
    omega (arith, size-plus, sum_by-cons)
weights-grown n (suc i) (w ∷ ws) c =
    let entry : Entry = record { first = n; second = n; weight = w } in
    let grown = slice_set ws i (slice_index_or ws i (pos 0) +ℤ c) in
    omega (arith, weights-grown (suc n) i ws c, sum_by-cons)

pub quad_total-with_term : (q : QuadContent) (ls : List Literal) (c : ℤ)
    → quad_total (with_term q (ls, c)) ≤ quad_total q + unsigned_abs c
quad_total-with_term q ls c =
    grind (arith, nat_tests, ints, size-plus, weights-grown, sum_by-append, sum_by_push)

pub quad_total-fold : (q : QuadContent) (ts : List Term)
    → quad_total (fold with_term q ts) ≤ quad_total q + terms_total ts
quad_total-fold q [] = omega arith
quad_total-fold q (t ∷ ts) =
    grind (arith, nat_tests, quad_total-fold (with_term q t) ts, quad_total-with_term, terms_total-cons)

weights-zero : (n width : ℕ) → weight_total (node_entries n (replicate width (pos 0)) ++ []) ≡ 0
weights-zero n zero = refl
weights-zero n (suc width) = grind (arith, nat_tests, elements, weights-zero (suc n) width)

pub quad_total-zero : (width : ℕ) → quad_total (zero_quad width) ≡ 0
quad_total-zero width = omega (arith, weights-zero 0 width)

pub quad_total-of : (width : ℕ) (ts : List Term) → quad_total (quad_of width ts) ≤ terms_total ts
quad_total-of width ts = omega (arith, quad_total-fold (zero_quad width) ts, quad_total-zero width)

pub quad_total-image : (t : TableContent) → IsLow t → quad_total (image t) ≤ 4 * terms_total t.terms
quad_total-image t low =
    let short = terms_total-contributions t.terms (recursion_from_All _ _ low) in
    let whole = quad_total-of t.width (with_additions [] (contributions t.terms)) in
    omega (arith, whole, terms_total-with_additions (contributions t.terms), short)

-- ---- the size

-- the size beside the width and the nodes
abbrev rest_size : QuadContent → ℕ
rest_size q = (if int_eq q.constant (pos 0) then 0 else 1) + sum_by entry_size q.couplers

nonzero-le : (b : Bool) → (if b then 0 else 1) ≤ 1
nonzero-le b = grind (arith, nat_tests)

entry_size-le : (e : Entry) → entry_size e ≤ 4
entry_size-le e = grind (arith, nat_tests)

-- of a node it is at most 1
node_size-le : (n : ℕ) (w : ℤ) → entry_size (record { first = n; second = n; weight = w }) ≤ 1
node_size-le n w = grind (arith, nat_tests, ints)

nodes_size-le : (n : ℕ) (ws : List ℤ) → sum_by entry_size (node_entries n ws) ≤ length ws
nodes_size-le n [] = omega arith
nodes_size-le n (w ∷ ws) =
    let rest0 = nodes_size-le (suc n) ws in simp sum_by-cons (grind (arith, nat_tests, ints, node_size-le))

rest_size-with_term : (q : QuadContent) (ls : List Literal) (c : ℤ) (used : ℕ)
    → rest_size q ≤ used → ((if int_eq q.constant (pos 0) then 0 else 1) ≤ 1)
    → rest_size (with_term q (ls, c)) ≤ used + form_size ls
rest_size-with_term q ls c used h one =
    grind (arith, nat_tests, ints, nonzero-le, sum_by_push, entry_size-le)

rest_size-fold : (q : QuadContent) (ts : List Term)
    → rest_size (fold with_term q ts) ≤ rest_size q + sets_sum form_size ts
rest_size-fold q [] = omega arith
rest_size-fold q (t ∷ ts) =
    let one = rest_size-with_term q t.0 t.1 (rest_size q) (omega arith) (nonzero-le _) in
    omega (arith, rest_size-fold (with_term q t) ts, one, sets_sum-cons form_size t ts)

pub quad_size-image : (t : TableContent) → IsLow t → quad_size (image t) ≤ table_size t * 2
quad_size-image t low =
    let q = image t in
    let both = sum_by-append entry_size (node_entries 0 q.diagonal) q.couplers in
    let fold = rest_size-fold (zero_quad t.width) (with_additions [] (contributions t.terms)) in
    let sets = sets_sum-with_additions form_size (contributions t.terms) in
    let form = form_size-contributions t.terms (recursion_from_All _ _ low) in
    omega (arith, length-image t, nodes_size-le 0 q.diagonal, both, fold, sets, form)

-- ---- the couplers

-- the entries of the pairs
abbrev pub pairs_of : List Term → List Entry
pairs_of [] = []
pairs_of (([], c) ∷ ts) = pairs_of ts
pairs_of ((l ∷ [], c) ∷ ts) = pairs_of ts
pairs_of ((l ∷ k ∷ ls, c) ∷ ts) = pair_entry l k c ∷ pairs_of ts

couplers-fold : (q : QuadContent) (ts : List Term)
    → (fold with_term q ts).couplers ≡ q.couplers ++ pairs_of ts
couplers-fold q [] = sym (append-nil q.couplers)
couplers-fold q (t ∷ ts) = grind (arith, nat_tests, couplers-fold (with_term q t) ts, append_assoc)

-- the sets of two variables that are above a pair
pairs_above : (width : ℕ) (l k : Literal) (c : ℤ) (ts : List Term) → IsFlat width (l ∷ k ∷ [])
    → AllByRecursion (OfSet (IsFlat width)) ts → Under (l ∷ k ∷ []) ts
    → AllByRecursion (λ e. entry_cmp (pair_entry l k c) e ≡ Less) (pairs_of ts)
pairs_above width l k c [] pair flat under = tt
pairs_above width l k c (t ∷ ts) pair flat under =
    grind (arith, nat_tests, ints, pairs_above width l k c ts pair flat.1 under.1)

pairs_ascend : (width : ℕ) (ts : List Term) → AllByRecursion (OfSet (IsFlat width)) ts → Ascends ts
    → IsStrictlySortedBy entry_cmp (pairs_of ts)
unfolding IsStrictlySortedBy
pairs_ascend width [] flat ascends = tt
pairs_ascend width (([], c) ∷ ts) flat ascends = pairs_ascend width ts flat.1 ascends.1
pairs_ascend width ((l ∷ [], c) ∷ ts) flat ascends = pairs_ascend width ts flat.1 ascends.1
pairs_ascend width ((l ∷ k ∷ [], c) ∷ ts) flat ascends =
    (pairs_above width l k c ts flat.0 flat.1 ascends.0, pairs_ascend width ts flat.1 ascends.1)
pairs_ascend width ((l ∷ k ∷ m ∷ ls, c) ∷ ts) flat ascends = absurd flat.0

pairs_couple : (width : ℕ) (ts : List Term) → AllByRecursion (OfSet (IsFlat width)) ts
    → AllByRecursion (λ (t : Term). t.1 ≢ pos 0) ts → AllByRecursion (IsCoupler width) (pairs_of ts)
pairs_couple width [] flat nonzero = tt
pairs_couple width (t ∷ ts) flat nonzero =
    grind (arith, nat_tests, pairs_couple width ts flat.1 nonzero.1)

-- ---- what is kept

pub couplers_of : (width : ℕ) (ts : List Term) → (quad_of width ts).couplers ≡ pairs_of ts
couplers_of width ts = couplers-fold (zero_quad width) ts

pub width_of : (width : ℕ) (ts : List Term) → length (quad_of width ts).diagonal ≡ width
width_of width ts = length-fold (zero_quad width) ts ∙ length-replicate width (pos 0)

-- the form of a table over variables is a quadratic form
pub IsQuad-of : (width : ℕ) (ts : List Term) → width < 2 ^ 32 → All (OfSet (IsFlat width)) ts
    → AreTerms width ts → terms_total ts ≤ 2 ^ 124 → IsQuad (quad_of width ts)
IsQuad-of width ts narrow flat terms small =
    let sets = recursion_from_All _ _ flat in
    let nonzero = recursion_from_All _ _ terms.nonzero in
    record {
      ordered = rw (couplers_of width ts) (pairs_ascend width ts sets terms.ordered);
      couplers =
          rw (couplers_of width ts, width_of width ts)
          (All-from_recursion _ _ (pairs_couple width ts sets nonzero));
      narrow = omega (arith, width_of width ts);
      small = omega (arith, quad_total-of width ts);
    }
