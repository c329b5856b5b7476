-- A quadratic form is told by its constant, its weights of nodes and the sum that it has for each
-- pair, and for terms over variables these are the sums of the coefficients of a set.
use Rattle.quad_form.proofs.Common.{◌≡◌, ℕ, ◌*◌, ◌<◌, ◌≤◌, ◌^◌, false, ◌&&◌, eqb, ℤ, pos, ◌+ℤ◌, List, [], ◌∷◌, length, get_or, fold, sym, subst, ◌∙◌, arith, slice_set, AllByRecursion, slice_index_or, ordering_then, is_eq, Ordering, ints, nat_tests, get_or-set_same, get_or-set_other, All-weaker, recursion_from_All, if_so, total_by_push, Entry, Literal, Term, set_cmp, coefficient_of, with_additions, terms_total, TableContent, IsTable, IsLow, contributions, terms_total-with_additions, OfSet, AreTerms-with_additions, QuadContent, IsCoupler, IsQuad, with_term, image, IsFlat, length-with_term, flat_sets, flat_contributions, IsNonzero, weight_at, same_entries, ArePairs, rising_from_ordered, Less, Greater}
use Rattle.quad_form.proofs.FlatForms.{IsQuad-of, IsTermSet-flat, terms_total-contributions}

-- ---- the sets of a constant, a node and a pair

abbrev pub node : ℕ → Literal
node i = record { variable = i; negated = false }

pub then_less : (o : Ordering) → is_eq (ordering_then o Less) ≡ false
then_less o = grind (arith, nat_tests)

pub then_greater : (o : Ordering) → is_eq (ordering_then o Greater) ≡ false
then_greater o = grind (arith, nat_tests)

pub one_is : (i : ℕ) (l : Literal) → l.negated ≡ false
    → is_eq (set_cmp (node i ∷ []) (l ∷ [])) ≡ eqb i l.variable
one_is i l e = grind (arith, nat_tests)

pub two_are : (i j : ℕ) (l k : Literal) → l.negated ≡ false → k.negated ≡ false
    → is_eq (set_cmp (node i ∷ node j ∷ []) (l ∷ k ∷ [])) ≡ (eqb i l.variable && eqb j k.variable)
two_are i j l k e f = grind (arith, nat_tests)

-- ---- what terms over variables place

abbrev pub AreFlat : ℕ → List Term → Type 0
AreFlat width ts = AllByRecursion (OfSet (IsFlat width)) ts

pub constant-fold : (q : QuadContent) (ts : List Term)
    → (fold with_term q ts).constant ≡ q.constant +ℤ coefficient_of [] ts
constant-fold q [] = omega (arith, ints)
constant-fold q (t ∷ ts) = grind (arith, nat_tests, ints, constant-fold (with_term q t) ts)

-- a node's weight grows by the coefficients of its own terms alone
pub grown : (ws : List ℤ) (i n : ℕ) (c : ℤ) → n < length ws
    → get_or (slice_set ws n (slice_index_or ws n (pos 0) +ℤ c)) i (pos 0)
    ≡ get_or ws i (pos 0) +ℤ if_so (eqb i n) c
grown ws i n c in' = grind (arith, nat_tests, ints, get_or-set_same, get_or-set_other)

node-with_term : (q : QuadContent) (i : ℕ) (ls : List Literal) (c : ℤ) → IsFlat (length q.diagonal) ls
    → get_or (with_term q (ls, c)).diagonal i (pos 0)
    ≡ get_or q.diagonal i (pos 0) +ℤ if_so (is_eq (set_cmp (node i ∷ []) ls)) c
node-with_term q i ls c flat = grind (arith, nat_tests, ints, one_is, grown, then_less)

pub node-fold : (q : QuadContent) (width i : ℕ) (ts : List Term) → length q.diagonal ≡ width
    → AreFlat width ts → get_or (fold with_term q ts).diagonal i (pos 0)
    ≡ get_or q.diagonal i (pos 0) +ℤ coefficient_of (node i ∷ []) ts
node-fold q width i [] same flat = omega (arith, ints)
node-fold q width i (t ∷ ts) same flat =
    let P : ℕ → Type 0 = λ n. IsFlat n t.0 in
    let rest = node-fold (with_term q t) width i ts (length-with_term q t ∙ same) flat.1 in
    omega (arith, ints, node-with_term q i t.0 t.1 (subst P (sym same) flat.0))

pair-with_term : (q : QuadContent) (i j width : ℕ) (ls : List Literal) (c : ℤ) → IsFlat width ls
    → weight_at i j (with_term q (ls, c)).couplers
    ≡ weight_at i j q.couplers +ℤ if_so (is_eq (set_cmp (node i ∷ node j ∷ []) ls)) c
pair-with_term q i j width ls c flat =
    grind (arith, nat_tests, ints, then_greater, two_are, total_by_push)

pub pair-fold : (q : QuadContent) (i j width : ℕ) (ts : List Term) → AreFlat width ts
    → weight_at i j (fold with_term q ts).couplers
    ≡ weight_at i j q.couplers +ℤ coefficient_of (node i ∷ node j ∷ []) ts
pair-fold q i j width [] flat = omega (arith, ints)
pair-fold q i j width (t ∷ ts) flat =
    let rest = pair-fold (with_term q t) i j width ts flat.1 in
    omega (arith, ints, pair-with_term q i j width t.0 t.1 flat.0)

-- ---- the image

pub couplers_are_pairs : (n : ℕ) (es : List Entry) → n < 2 ^ 32 → AllByRecursion (IsCoupler n) es → ArePairs es
couplers_are_pairs n [] narrow all = tt
couplers_are_pairs n (e ∷ es) narrow all =
    grind (arith, nat_tests, couplers_are_pairs n es narrow all.1)

pub nonzero_couplers : (n : ℕ) (es : List Entry) → AllByRecursion (IsCoupler n) es
    → AllByRecursion IsNonzero es
nonzero_couplers n [] all = tt
nonzero_couplers n (e ∷ es) all = (all.0.nonzero, nonzero_couplers n es all.1)

pub same_couplers : (q r : QuadContent) → IsQuad q → IsQuad r
    → ((i j : ℕ) → weight_at i j q.couplers ≡ weight_at i j r.couplers) → q.couplers ≡ r.couplers
same_couplers q r a b same =
    let all = recursion_from_All _ _ a.couplers in
    let others = recursion_from_All _ _ b.couplers in
    let pairs = couplers_are_pairs _ q.couplers a.narrow all in
    let other_pairs = couplers_are_pairs _ r.couplers b.narrow others in
    same_entries q.couplers r.couplers pairs other_pairs
    (rising_from_ordered q.couplers pairs a.ordered)
    (rising_from_ordered r.couplers other_pairs b.ordered)
    (nonzero_couplers _ q.couplers all) (nonzero_couplers _ r.couplers others) same

pub IsQuad-image : (t : TableContent) → IsTable t → IsLow t → t.width < 2 ^ 32
    → 4 * terms_total t.terms ≤ 2 ^ 124 → IsQuad (image t)
IsQuad-image t table low narrow small =
    let ts = contributions t.terms in
    let short = recursion_from_All _ _ low in
    let flat = flat_contributions t.width t.terms (recursion_from_All _ _ table.terms.sets) short in
    IsQuad-of t.width (with_additions [] ts) narrow (flat_sets t table low)
    (AreTerms-with_additions t.width ts (All-weaker _ _ (λ (u : Term) h. IsTermSet-flat t.width u.0 h) ts flat))
    (omega (arith, terms_total-with_additions ts, terms_total-contributions t.terms short))
