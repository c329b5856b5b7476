-- What additions keep: the terms stay in order, none is 0, and what holds of the sets of the table
-- and of the added sets holds of all sets.
use Rattle.term_table.proofs.Common.{false, is_lt, is_eq, nat_tests, ints, arith, ◌≡◌, ◌≢◌, ℕ, ap, ◌∙◌, List, [], ◌∷◌, ℤ, pos, ◌+ℤ◌, All, AllByRecursion, IsStrictlySortedBy, keys_of, ordering_reverse, All-nil, All-cons, All-head, All-tail, Literal, Term, set_cmp, in_front, with_addition, with_additions, Ascends, AreTerms, IsTermSet}
use Rattle.std.specs.declared.cmp.Ordering.TheVariants.{Less, Greater}
use Rattle.term_table.proofs.SetOrder.{set_total}

-- ---- what holds of each set

-- the fact holds of the set of the term
abbrev pub OfSet : (List Literal → Type 0) → Term → Type 0
OfSet P t = P t.0

All-in_front : (P : List Literal → Type 0) (ls : List Literal) (c : ℤ) (ts : List Term) → P ls
    → All (OfSet P) ts → All (OfSet P) (in_front ls c ts)
All-in_front P ls c ts here all = grind (arith, nat_tests, ints)

pub All-with_addition : (P : List Literal → Type 0) (ts : List Term) (ls : List Literal) (c : ℤ)
    → All (OfSet P) ts → P ls → All (OfSet P) (with_addition ts ls c)
All-with_addition P [] ls c all here = All-in_front P ls c [] here all
All-with_addition P (t ∷ ts) ls c all here =
    let first = All-head (OfSet P) t ts all in
    let later = All-tail (OfSet P) t ts all in
    let low = All-in_front P ls c (t ∷ ts) here all in
    let same = All-in_front P t.0 (t.1 +ℤ c) ts first later in
    let rest = All-with_addition P ts ls c later here in
    let more = All-cons (OfSet P) t (with_addition ts ls c) first rest in
    grind (arith, nat_tests)

All-more : (P : List Literal → Type 0) (table ts : List Term) → All (OfSet P) table
    → All (OfSet P) ts → All (OfSet P) (with_additions table ts)
All-more P table [] all each = all
All-more P table (t ∷ ts) all each =
    All-more P (with_addition table t.0 t.1) ts
    (All-with_addition P table t.0 t.1 all (All-head (OfSet P) t ts each))
    (All-tail (OfSet P) t ts each)

-- what holds of each added set holds of each set of the table
pub All-with_additions : (P : List Literal → Type 0) (ts : List Term) → All (OfSet P) ts
    → All (OfSet P) (with_additions [] ts)
All-with_additions P ts each = All-more P [] ts (All-nil (OfSet P)) each

-- ---- no coefficient is 0

abbrev pub IsNonzero : Term → Type 0
IsNonzero t = t.1 ≢ pos 0

pub nonzero-in_front : (ls : List Literal) (c : ℤ) (ts : List Term) → All IsNonzero ts
    → All IsNonzero (in_front ls c ts)
nonzero-in_front ls c ts all = grind (arith, nat_tests, ints)

nonzero-with_addition : (ts : List Term) (ls : List Literal) (c : ℤ) → All IsNonzero ts
    → All IsNonzero (with_addition ts ls c)
nonzero-with_addition [] ls c all = nonzero-in_front ls c [] all
nonzero-with_addition (t ∷ ts) ls c all =
    let later = All-tail IsNonzero t ts all in
    let low = nonzero-in_front ls c (t ∷ ts) all in
    let same = nonzero-in_front t.0 (t.1 +ℤ c) ts later in
    let rest = nonzero-with_addition ts ls c later in
    let more = All-cons IsNonzero t (with_addition ts ls c) (All-head IsNonzero t ts all) rest in
    grind (arith, nat_tests)

-- ---- the order

-- the set is below each set of the list
abbrev pub Under : List Literal → List Term → Type 0
Under ks ts = AllByRecursion (λ ls. set_cmp ks ls ≡ Less) (keys_of ts)

pub Under-in_front : (ks ls : List Literal) (c : ℤ) (ts : List Term) → set_cmp ks ls ≡ Less → Under ks ts
    → Under ks (in_front ls c ts)
Under-in_front ks ls c ts less under = grind (arith, nat_tests, ints)

pub Under-with_addition : (ks : List Literal) (ts : List Term) (ls : List Literal) (c : ℤ)
    → set_cmp ks ls ≡ Less → Under ks ts → Under ks (with_addition ts ls c)
Under-with_addition ks [] ls c less under = Under-in_front ks ls c [] less under
Under-with_addition ks (t ∷ ts) ls c less under =
    grind (arith, nat_tests, ints, Under-with_addition ks ts ls c less under.1)

pub Under-further : (ks ls : List Literal) (ts : List Term) → set_cmp ks ls ≡ Less → Under ls ts
    → Under ks ts
Under-further ks ls [] less under = under
Under-further ks ls (t ∷ ts) less under =
    (set_total.trans ks ls t.0 less under.0, Under-further ks ls ts less under.1)

pub greater_back : (ls ks : List Literal) → set_cmp ls ks ≡ Greater → set_cmp ks ls ≡ Less
greater_back ls ks e = set_total.antisymm ks ls ∙ ap ordering_reverse e

-- of two sets the one that is not above the other is below it, unless they are one
pub above : (ls ms : List Literal) → is_eq (set_cmp ls ms) ≡ false → is_lt (set_cmp ms ls) ≡ false
    → set_cmp ls ms ≡ Less
above ls ms other up = grind (arith, nat_tests, greater_back)

pub Ascends-in_front : (ls : List Literal) (c : ℤ) (ts : List Term) → Under ls ts → Ascends ts
    → Ascends (in_front ls c ts)
unfolding IsStrictlySortedBy
Ascends-in_front ls c ts under ascends = grind (arith, nat_tests, ints)

Ascends-with_addition : (ts : List Term) (ls : List Literal) (c : ℤ) → Ascends ts → Ascends (with_addition ts ls c)
unfolding IsStrictlySortedBy
Ascends-with_addition [] ls c ascends = Ascends-in_front ls c [] ascends ascends
Ascends-with_addition (t ∷ ts) ls c ascends =
    let rest = Ascends-with_addition ts ls c ascends.1 in
    grind (arith, nat_tests, ints, rest, Under-further, Under-with_addition, greater_back)

-- ---- all three

pub Ascends-nil : Ascends []
unfolding IsStrictlySortedBy
Ascends-nil = tt

pub AreTerms-nil : (width : ℕ) → AreTerms width []
AreTerms-nil width = record {
  ordered = Ascends-nil;
  sets = All-nil (OfSet (IsTermSet width));
  nonzero = All-nil IsNonzero;
}

pub AreTerms-with_addition : (width : ℕ) (ts : List Term) (ls : List Literal) (c : ℤ) → AreTerms width ts
    → IsTermSet width ls → AreTerms width (with_addition ts ls c)
AreTerms-with_addition width ts ls c terms here = record {
  ordered = Ascends-with_addition ts ls c terms.ordered;
  sets = All-with_addition (IsTermSet width) ts ls c terms.sets here;
  nonzero = nonzero-with_addition ts ls c terms.nonzero;
}

pub AreTerms-more : (width : ℕ) (table ts : List Term) → AreTerms width table
    → All (OfSet (IsTermSet width)) ts → AreTerms width (with_additions table ts)
AreTerms-more width table [] terms each = terms
AreTerms-more width table (t ∷ ts) terms each =
    let first = All-head (OfSet (IsTermSet width)) t ts each in
    AreTerms-more width (with_addition table t.0 t.1) ts (AreTerms-with_addition width table t.0 t.1 terms first)
    (All-tail (OfSet (IsTermSet width)) t ts each)

pub AreTerms-with_additions : (width : ℕ) (ts : List Term) → All (OfSet (IsTermSet width)) ts
    → AreTerms width (with_additions [] ts)
AreTerms-with_additions width ts each = AreTerms-more width [] ts (AreTerms-nil width) each

-- ---- the order, and that no coefficient is 0, of any additions

pub Ascends-more : (table ts : List Term) → Ascends table → Ascends (with_additions table ts)
Ascends-more table [] ascends = ascends
Ascends-more table (t ∷ ts) ascends =
    Ascends-more (with_addition table t.0 t.1) ts (Ascends-with_addition table t.0 t.1 ascends)

pub Ascends-with_additions : (ts : List Term) → Ascends (with_additions [] ts)
Ascends-with_additions ts = Ascends-more [] ts Ascends-nil

pub nonzero-more : (table ts : List Term) → All IsNonzero table → All IsNonzero (with_additions table ts)
nonzero-more table [] all = all
nonzero-more table (t ∷ ts) all =
    nonzero-more (with_addition table t.0 t.1) ts (nonzero-with_addition table t.0 t.1 all)

pub nonzero-with_additions : (ts : List Term) → All IsNonzero (with_additions [] ts)
nonzero-with_additions ts = nonzero-more [] ts (All-nil IsNonzero)
