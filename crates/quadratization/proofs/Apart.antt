-- What a term gives a set, multiplied out, is additive in its coefficient: collecting terms before
-- they are multiplied out changes nothing.
use Rattle.quadratization.proofs.Common.{inr, inl, cases_Bool, nat_tests, ◌≡◌, Bool, arith, refl, List, [], ◌∷◌, ℤ, pos, ◌+ℤ◌, neg_ℤ, is_eq, ints, if_so, total_by-append, total_by-flat_map, Literal, literal_cmp, Term, set_cmp, coefficient_of, with_additions, plain, with_front, plain_terms, if_so-plus, sum_for, Amount, IsAdditive, given, given-with_additions, ℕ, ◌≤◌, true, not, leb, sym, ◌∙◌, length, sum_by, filter, AllByRecursion, All-filter, filter_passes, All-weaker, recursion_from_All, sum_by-cons, OfSet, Ascends-with_additions, nonzero-with_additions, All-with_additions, same_terms, new_nodes, is_long, short_terms, long_additions, long_terms, filter-ascends, ◌+◌, ap, ◌++◌, TableContent, all_new_terms, all_nodes, parts, flat_map, new_bits}
use Rattle.term_table.proofs.KeptTerms.{IsNonzero}

-- ---- what a term gives a set, multiplied out

-- the coefficient of a set
abbrev pub share_of : List Literal → Amount
share_of ls ks c = coefficient_of ls (plain_terms ks c)

if_so-zero : (a : Bool) → pos 0 ≡ if_so a (pos 0)
if_so-zero a = grind (arith, nat_tests)

front-none : (l : Literal) (ts : List Term) → coefficient_of [] (with_front l ts) ≡ pos 0
front-none l [] = refl
front-none l (t ∷ ts) = omega (arith, ints, front-none l ts)

front-some : (k : Literal) (ks : List Literal) (l : Literal) (ts : List Term)
    → coefficient_of (k ∷ ks) (with_front l ts)
    ≡ if_so (is_eq (literal_cmp k l)) (coefficient_of ks ts)
front-some k ks l [] = if_so-zero (is_eq (literal_cmp k l))
front-some k ks l (t ∷ ts) = grind (arith, nat_tests, front-some k ks l ts)

-- what is added in front of all terms is additive where they are
front-plus : (l : Literal) (ks : List Literal)
    → ((ls : List Literal) (c d : ℤ) → share_of ls ks (c +ℤ d) ≡ share_of ls ks c +ℤ share_of ls ks d)
    → (ls : List Literal) (c d : ℤ) → coefficient_of ls (with_front l (plain_terms ks (c +ℤ d)))
    ≡ coefficient_of ls (with_front l (plain_terms ks c))
    +ℤ coefficient_of ls (with_front l (plain_terms ks d))
front-plus l ks plus [] c d = grind (arith, nat_tests, ints, front-none)
front-plus l ks plus (m ∷ ms) c d = grind (arith, nat_tests, ints, front-some, if_so-plus)

share-step : (k : Literal) (ks ls : List Literal) (c d : ℤ)
    → ((ls : List Literal) (c d : ℤ) → share_of ls ks (c +ℤ d) ≡ share_of ls ks c +ℤ share_of ls ks d)
    → share_of ls (k ∷ ks) (c +ℤ d) ≡ share_of ls (k ∷ ks) c +ℤ share_of ls (k ∷ ks) d
share-step k ks ls c d plus =
    let turned : neg_ℤ (c +ℤ d) ≡ neg_ℤ c +ℤ neg_ℤ d = omega (arith, ints) in
    let negative = rw (← turned) at (front-plus (plain k) ks plus ls (neg_ℤ c) (neg_ℤ d)) in
    elim (cases_Bool k.negated) [
      | inl is ↦ rw is (simp total_by-append (omega (arith, ints, plus ls c d, negative)))
      | inr is ↦ rw is (front-plus (plain k) ks plus ls c d)
    ]

pub share-plus : (ks ls : List Literal) (c d : ℤ)
    → share_of ls ks (c +ℤ d) ≡ share_of ls ks c +ℤ share_of ls ks d
share-plus [] ls c d = omega (arith, ints, if_so-plus (is_eq (set_cmp ls [])) c d)
share-plus (k ∷ ks) ls c d = share-step k ks ls c d (share-plus ks)

-- term by term
pub sum_for-given : (ls : List Literal) (ts : List Term) → sum_for ls ts ≡ given (share_of ls) ts
sum_for-given ls ts = grind (arith, nat_tests, total_by-flat_map)

-- collecting terms before they are multiplied out changes nothing
pub sum_for-with_additions : (ls : List Literal) (ts : List Term)
    → sum_for ls (with_additions [] ts) ≡ sum_for ls ts
sum_for-with_additions ls ts =
    sum_for-given ls (with_additions [] ts) ∙ given-with_additions (share_of ls) (λ ks. share-plus ks ls) ts
    ∙ sym (sum_for-given ls ts)

-- Short and long terms apart: the long ones of a table are the table of the long additions, and they
-- alone have new nodes.

-- ---- the long terms of a table

-- at most two literals
abbrev pub is_short_set : List Literal → Bool
is_short_set ls = leb (length ls) 2

-- three literals or more
abbrev pub is_long_set : List Literal → Bool
is_long_set ls = not (leb (length ls) 2)

-- ---- the terms that pass a test of their sets

-- only for sets that pass
abbrev only : (List Literal → Bool) → Amount → Amount
only test f ls c = if_so (test ls) (f ls c)

additive-only : (test : List Literal → Bool) (f : Amount) → IsAdditive f → IsAdditive (only test f)
additive-only test f plus ls c d = grind (arith, nat_tests)

given-filter : (test : List Literal → Bool) (f : Amount) (ts : List Term)
    → given f (filter (λ t. test t.0) ts) ≡ given (only test f) ts
given-filter test f [] = refl
given-filter test f (t ∷ ts) = grind (arith, nat_tests, given-filter test f ts)

-- the coefficient of a set
abbrev at_set : List Literal → Amount
at_set ls ks c = if_so (is_eq (set_cmp ls ks)) c

at_set-additive : (ls : List Literal) → IsAdditive (at_set ls)
at_set-additive ls = λ ks c d. if_so-plus (is_eq (set_cmp ls ks)) c d

-- those of a table are the sums of the additions that do
pub filter-sums : (test : List Literal → Bool) (ts : List Term)
    → filter (λ t. test t.0) (with_additions [] ts) ≡ with_additions [] (filter (λ t. test t.0) ts)
filter-sums test ts =
    let table = with_additions [] ts in
    let passes : Term → Bool = λ t. test t.0 in
    let passed = filter passes ts in
    same_terms _ _
    (filter-ascends passes table (Ascends-with_additions ts)) (Ascends-with_additions passed)
    (All-filter passes IsNonzero table (nonzero-with_additions ts)) (nonzero-with_additions passed)
    (λ ls. given-filter test (at_set ls) table ∙ given-with_additions (only test (at_set ls))
    (additive-only test (at_set ls) (at_set-additive ls)) ts
    ∙ sym (given-filter test (at_set ls) ts)
    ∙ sym (given-with_additions (at_set ls) (at_set-additive ls) passed))

-- the long ones are the sums of the long additions
pub filter-with_additions : (ts : List Term) → filter is_long (with_additions [] ts) ≡ long_terms ts
filter-with_additions ts = filter-sums is_long_set ts

-- ---- the nodes

-- long terms alone have new nodes
pub nodes-filter : (ts : List Term) → sum_by new_nodes ts ≡ sum_by new_nodes (filter is_long ts)
nodes-filter [] = refl
nodes-filter (t ∷ ts) =
    grind (arith, nat_tests, nodes-filter ts, sum_by-cons new_nodes t ts, sum_by-cons new_nodes t (filter is_long ts))

-- ---- how long they are

pub long_length : (n : ℕ) → not (leb n 2) ≡ true → 3 ≤ n
long_length n e = grind (arith, nat_tests)

short_length : (n : ℕ) → leb n 2 ≡ true → n ≤ 2
short_length n e = grind (arith, nat_tests)

-- the long terms have three literals or more
pub long_terms-long : (ts : List Term) → AllByRecursion (λ (t : Term). 3 ≤ length t.0) (long_terms ts)
long_terms-long ts =
    let P = λ (ls : List Literal). not (leb (length ls) 2) ≡ true in
    recursion_from_All _ (long_terms ts)
    (All-weaker (OfSet P) (λ (t : Term). 3 ≤ length t.0) (λ (t : Term) h. long_length (length t.0) h) (long_terms ts)
    (All-with_additions P (long_additions ts) (filter_passes is_long ts)))

-- the short ones at most two
pub short_terms-short : (ts : List Term) → AllByRecursion (λ (t : Term). length t.0 ≤ 2) (short_terms ts)
short_terms-short ts = grind (arith, nat_tests, recursion_from_All, short_length, filter_passes)

-- Short and long terms apart: what stands for a table gives what its long terms give, and what the
-- short additions give unsummed.

-- long terms alone have new nodes
pub nodes-table : (t : TableContent)
    → t.width + sum_by new_nodes (with_additions [] t.terms) ≡ all_nodes t
nodes-table t = grind (arith, nat_tests, nodes-filter, filter-with_additions)

-- ---- what stands for all terms

-- the sum over two lists
pub sum_for-append : (ls : List Literal) (ts us : List Term)
    → sum_for ls (ts ++ us) ≡ sum_for ls ts +ℤ sum_for ls us
sum_for-append ls ts us = grind (arith, nat_tests, ints, sum_for-given, total_by-append, share_of)

-- what stands for the terms of a list gives what its short terms and its long terms give
split : (ls : List Literal) (ts : List Term) (n : ℕ) → sum_for ls (all_new_terms ts n)
    ≡ sum_for ls (short_terms ts) +ℤ sum_for ls (all_new_terms (filter is_long ts) n)
split ls [] n = omega (arith, ints)
split ls (t ∷ ts) n =
    let none : n + 0 ≡ n = omega arith in
    elim (cases_Bool (leb (length t.0) 2)) [
      | inl low ↦
          let first = sum_for-append ls (t ∷ []) (short_terms ts) in
          rw (low, none) (omega (arith, ints, sum_for-append ls (t ∷ []) (all_new_terms ts n), first, split ls ts n))
      | inr high ↦
          let rest = simp high at (split ls ts (n + new_nodes t)) in
          simp (high, sum_for-append) (omega (arith, ints, rest))
    ]

-- what stands for the table of additions gives what the parts give
pub parts-give : (ls : List Literal) (t : TableContent)
    → sum_for ls (all_new_terms (with_additions [] t.terms) t.width) ≡ sum_for ls (parts t)
parts-give ls t =
    let short : sum_for ls (short_terms (with_additions [] t.terms)) ≡ sum_for ls (short_terms t.terms) =
    ap (sum_for ls) (filter-sums is_short_set t.terms) ∙ sum_for-with_additions ls (short_terms t.terms) in
    let long = ap (λ us. sum_for ls (all_new_terms us t.width)) (filter-with_additions t.terms) in
    let both = sum_for-append ls (short_terms t.terms) (all_new_terms (long_terms t.terms) t.width) in
    omega (arith, ints, split ls (with_additions [] t.terms) t.width, short, long, both)

-- The bits of new nodes: long terms alone have some.

-- ---- long terms alone

bits-filter : (y : List Bool) (ts : List Term)
    → flat_map (new_bits y) ts ≡ flat_map (new_bits y) (filter is_long ts)
bits-filter y [] = refl
bits-filter y (t ∷ ts) = grind (arith, nat_tests, bits-filter y ts)

-- the sums of long additions have the bits of all
pub bits-long : (y : List Bool) (ts : List Term)
    → flat_map (new_bits y) (long_terms ts) ≡ flat_map (new_bits y) (with_additions [] ts)
bits-long y ts = grind (arith, nat_tests, bits-filter, filter-with_additions)
