-- The table of a run, in two parts: its terms of degree 3 or more, in order, and additions of lower
-- degree that are not summed yet.
--
-- Two lists are alike where they give each set the same sum. A substitution acts on each set by itself,
-- so it keeps lists alike; and lists in order that are alike are equal.
use Rattle.rosenberg_layer.proofs.Common.{all-filtered, not, nat_tests, ◌≡◌, ℕ, ◌+◌, ◌^◌, ◌≤◌, Bool, true, false, cond, leb, arith, refl, sym, ◌∙◌, List, [], ◌∷◌, ◌++◌, length, map, ℤ, pos, ◌+ℤ◌, unsigned_abs, All, AllByRecursion, filter, IsStrictlySortedBy, is_eq, ints, append-nil, All-filter, recursion_from_All, filter-append, sum_by-filter_both, total_by, if_so, total_by-append, Literal, Term, set_cmp, terms_total, coefficient_of, with_additions, Ascends, TableContent, weight, weight-with_additions, coefficient_of-with_additions, terms_total-cons, IsNonzero, Under, Ascends-with_additions, nonzero-with_additions, same_set, same_terms, node, Pair, is_long, has_pair, new_term, pair_total, with_pair, rest_of, pair_total-cons, IsSound, is_short, weight_of, weights, AreAlike, NoneLong, AreParts, if_so-plus, long_after}

-- ---- lists that give each set the same sum

-- terms in order, none of them 0, are the table that they give as additions
pub with_additions-itself : (ts : List Term) → Ascends ts → All IsNonzero ts → with_additions [] ts ≡ ts
with_additions-itself ts ascends nonzero =
    same_terms (with_additions [] ts) ts (Ascends-with_additions ts) ascends
    (nonzero-with_additions ts) nonzero (λ ls. coefficient_of-with_additions ls ts)

pub with_additions-alike : (ts us : List Term) → AreAlike ts us
    → with_additions [] ts ≡ with_additions [] us
with_additions-alike ts us alike =
    same_terms (with_additions [] ts) (with_additions [] us) (Ascends-with_additions ts)
    (Ascends-with_additions us) (nonzero-with_additions ts) (nonzero-with_additions us)
    (λ ls. coefficient_of-with_additions ls ts ∙ alike ls ∙ sym (coefficient_of-with_additions ls us))

weight-alike : (test : List Literal → Bool) (ts us : List Term) → AreAlike ts us
    → weight test ts ≡ weight test us
weight-alike test ts us alike =
    grind (arith, nat_tests, weight-with_additions test, weight test, with_additions-alike ts us alike)

-- ---- the terms of degree 3 or more of lists that are alike

if_so-none : (b : Bool) → if_so b (pos 0) ≡ pos 0
if_so-none true = refl
if_so-none false = refl

-- what a term gives a set
abbrev pub given : List Literal → Term → ℤ
given ls t = if_so (is_eq (set_cmp ls t.0)) t.1

given-long : (ls : List Literal) (t : Term)
    → if_so (is_long t) (given ls t) ≡ if_so (leb 3 (length ls)) (given ls t)
given-long ls t = grind (arith, nat_tests, same_set ls t.0)

filter-gives : (f : Term → ℤ) (test : Term → Bool) (t : Term) (ts : List Term)
    → total_by f (filter test (t ∷ ts)) ≡ if_so (test t) (f t) +ℤ total_by f (filter test ts)
filter-gives f test t ts = grind (arith, nat_tests, ints)

coefficient-long : (ls : List Literal) (ts : List Term)
    → coefficient_of ls (filter is_long ts) ≡ if_so (leb 3 (length ls)) (coefficient_of ls ts)
coefficient-long ls [] = sym (if_so-none (leb 3 (length ls)))
coefficient-long ls (t ∷ ts) =
    grind (arith, nat_tests, coefficient-long ls ts, filter-gives, given-long, if_so-plus)

-- the two parts of a list give what the list gives
pub filter-both : (f : Term → ℤ) (ts : List Term)
    → total_by f (filter is_short ts) +ℤ total_by f (filter is_long ts) ≡ total_by f ts
filter-both f [] = refl
filter-both f (t ∷ ts) = go (is_long t) (filter-both f ts)
  where
    go : (b : Bool) → total_by f (filter is_short ts) +ℤ total_by f (filter is_long ts) ≡ total_by f ts
        → total_by f (cond (not b) (t ∷ filter is_short ts) (filter is_short ts))
        +ℤ total_by f (cond b (t ∷ filter is_long ts) (filter is_long ts)) ≡ total_by f (t ∷ ts)
    go true rest = omega (arith, ints)
    go false rest = omega (arith, ints)

pub filter-all : (test : Term → Bool) (ts : List Term) → AllByRecursion (λ t. test t ≡ true) ts
    → filter test ts ≡ ts
filter-all test [] all = refl
filter-all test (t ∷ ts) all = grind (arith, nat_tests, filter-all test ts all.1)

pub filter-none : (test : Term → Bool) (ts : List Term) → AllByRecursion (λ t. test t ≡ false) ts
    → filter test ts ≡ []
filter-none test [] all = refl
filter-none test (t ∷ ts) all = grind (arith, nat_tests, filter-none test ts all.1)

pub filter-yes : (test : Term → Bool) (ts : List Term)
    → AllByRecursion (λ t. test t ≡ true) (filter test ts)
filter-yes test [] = tt
filter-yes test (t ∷ ts) = grind (arith, nat_tests, filter-yes test ts)

pub short-none_long : (ts : List Term) → AllByRecursion (λ t. is_short t ≡ true) ts → NoneLong ts
short-none_long [] all = tt
short-none_long (t ∷ ts) all = grind (arith, nat_tests, short-none_long ts all.1)

-- ---- a table in two parts

Under-filter : (test : Term → Bool) (ls : List Literal) (ts : List Term) → Under ls ts
    → Under ls (filter test ts)
Under-filter test ls [] under = tt
Under-filter test ls (t ∷ ts) under = grind (arith, nat_tests, Under-filter test ls ts under.1)

pub filter-ascends : (test : Term → Bool) (ts : List Term) → Ascends ts → Ascends (filter test ts)
unfolding IsStrictlySortedBy
filter-ascends test [] ascends = tt
filter-ascends test (t ∷ ts) ascends =
    grind (arith, nat_tests, Under-filter test t.0 ts ascends.0, filter-ascends test ts ascends.1)

-- the long part is what the table has of degree 3 or more
pub long-is : (t : TableContent) (adds long : List Term) (bound : ℕ) → AreParts t adds long bound
    → filter is_long t.terms ≡ long
long-is t adds long bound parts =
    let low = filter-none is_long adds parts.low in
    let high = filter-all is_long long parts.high in
    let part = filter-append is_long adds long in
    same_terms (filter is_long t.terms) long (filter-ascends is_long t.terms parts.sound.ordered)
    parts.ordered (All-filter is_long IsNonzero t.terms parts.sound.nonzero) parts.nonzero
    (λ ls. cc (coefficient-long ls t.terms, parts.sums ls, coefficient-long ls (adds ++ long)))

pub weights-both : (ts : List Term)
    → weights (filter is_short ts) + weights (filter is_long ts) ≡ weights ts
weights-both ts = omega (arith, sum_by-filter_both is_long is_short (λ t. refl) weight_of ts)

pub totals-both : (ts : List Term)
    → terms_total (filter is_short ts) + terms_total (filter is_long ts) ≡ terms_total ts
totals-both ts =
    omega (arith, sum_by-filter_both is_long is_short (λ t. refl) (λ (t : Term). unsigned_abs t.1) ts)

-- the parts of a table at the start
pub parts-start : (t : TableContent) (bound : ℕ) → IsSound t → weights t.terms ≤ bound
    → terms_total t.terms ≤ 2 ^ 124
    → AreParts t (filter is_short t.terms) (filter is_long t.terms) bound
parts-start t bound sound small total =
    let low = filter is_short t.terms in
    let high = filter is_long t.terms in
    record {
      sound = sound;
      sums = λ ls. cc (filter-both (given ls) t.terms, total_by-append (given ls) low high);
      low = short-none_long low (filter-yes is_short t.terms);
      high = filter-yes is_long t.terms;
      ordered = filter-ascends is_long t.terms sound.ordered;
      nonzero = All-filter is_long IsNonzero t.terms sound.nonzero;
      sets = all-filtered _ is_short t.terms (recursion_from_All _ t.terms sound.sets);
      small = omega (arith, weights-both t.terms, small);
      total = omega (arith, totals-both t.terms, total);
    }

-- ---- a substitution of each set by itself

-- what a set becomes
abbrev new_set : Pair → Literal → List Literal → List Literal
new_set pair w ls = cond (has_pair pair (ls, pos 0)) (rest_of pair ls ++ w ∷ []) ls

given-new : (pair : Pair) (w : Literal) (ls : List Literal) (t : Term)
    → given ls (new_term pair w t) ≡ if_so (is_eq (set_cmp ls (new_set pair w t.0))) t.1
given-new pair w ls t = grind (arith, nat_tests)

coefficient-new : (pair : Pair) (w : Literal) (ls : List Literal) (ts : List Term)
    → coefficient_of ls (map (new_term pair w) ts)
    ≡ weight (λ ks. is_eq (set_cmp ls (new_set pair w ks))) ts
coefficient-new pair w ls [] = refl
coefficient-new pair w ls (t ∷ ts) =
    λ i. given-new pair w ls t i +ℤ coefficient-new pair w ls ts i

pub new_terms-alike : (pair : Pair) (w : Literal) (ts us : List Term) → AreAlike ts us
    → AreAlike (map (new_term pair w) ts) (map (new_term pair w) us)
new_terms-alike pair w ts us alike = λ ls.
    coefficient-new pair w ls ts
    ∙ weight-alike (λ ks. is_eq (set_cmp ls (new_set pair w ks))) ts us alike
    ∙ sym (coefficient-new pair w ls us)

-- terms of lower degree stay
pub new_terms-low : (pair : Pair) (w : Literal) (ts : List Term) → NoneLong ts
    → map (new_term pair w) ts ≡ ts
new_terms-low pair w [] low = refl
new_terms-low pair w (t ∷ ts) low = grind (arith, nat_tests, new_terms-low pair w ts low.1)

-- only terms of degree 3 or more have the pair
pub pair_total-long : (pair : Pair) (ts : List Term)
    → pair_total pair ts ≡ pair_total pair (filter is_long ts)
pair_total-long pair [] = refl
pair_total-long pair (t ∷ ts) = grind (arith, nat_tests, pair_total-long pair ts, pair_total-cons)

pub total-new : (pair : Pair) (w : Literal) (ts : List Term)
    → terms_total (map (new_term pair w) ts) ≡ terms_total ts
total-new pair w [] = refl
total-new pair w (t ∷ ts) = grind (arith, nat_tests, total-new pair w ts, terms_total-cons)

-- ---- the terms of degree 3 or more after a substitution

-- the long terms of sums are the sums of the long additions
pub filter-sums : (us : List Term)
    → filter is_long (with_additions [] us) ≡ with_additions [] (filter is_long us)
filter-sums us =
    let all = with_additions [] us in
    let long = filter is_long us in
    same_terms (filter is_long all) (with_additions [] long)
    (filter-ascends is_long all (Ascends-with_additions us)) (Ascends-with_additions long)
    (All-filter is_long IsNonzero all (nonzero-with_additions us)) (nonzero-with_additions long)
    (λ ls. simp (coefficient-long, coefficient_of-with_additions) refl)

long-again : (pair : Pair) (w : Literal) (ts : List Term)
    → long_after pair w ts ≡ long_after pair w (filter is_long ts)
long-again pair w [] = refl
long-again pair w (t ∷ ts) = grind (arith, nat_tests, long-again pair w ts)

pub long-replaced : (t : TableContent) (pair : Pair) → filter is_long (with_pair pair t).terms
    ≡ with_additions [] (long_after pair (node t.width) (filter is_long t.terms))
long-replaced t pair = grind (arith, nat_tests, filter-sums, filter-append, append-nil, long-again)
