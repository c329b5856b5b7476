-- A substitution leaves terms in order, of literal sets of one more variable. Nothing here has to be
-- believed.
use Rattle.std.specs.Prelude.{◌≡◌, ◌+◌, ◌<◌, ◌≤◌, ◌∷◌, ◌++◌}
use Rattle.rosenberg_layer.specs.laws.Common.{ℕ, zero, suc, Bool, true, not, List, [], map, length, get_or, Option, Some, None, All, AllByRecursion, filter, list_any, IsStrictlySortedBy, is_eq, bool_cmp, ordering_then, nat_cmp_is, Less, arith, sym, ap, refl, subst, nat_tests, length-append, tied_itself, All-append, All-from_recursion, recursion_from_All, Literal, literal_cmp, IsLiteralSet, Rises, no_clash, literal_total, Term, AreTerms, IsTermSet, TableContent, OfSet, AreTerms-with_additions, IsBelow, Ascend, IsLiteralSet-ascends, IsTermSet-one, IsTermSet-two, IsTermSet-wider, node, Pair, is_literal, has_literal, without, is_long, has_pair, new_term, pair_total, tie_terms, replaced, with_pair, front_pair, next_pair, with_next, substituted, run}
use Rattle.rosenberg_layer.specs.laws.Costs.{literal_same, rest_of, Differ, three_true, has-without}

-- ---- literals whose variables rise are a set

-- the variables of the literals lie below n
abbrev pub Within : ℕ → List Literal → Type 0
Within n ls = AllByRecursion (λ l. l.variable < n) ls

less_from_below : (l : Literal) (ks : List Literal) → IsBelow l ks
    → AllByRecursion (λ k. literal_cmp l k ≡ Less) ks
less_from_below l [] below = tt
less_from_below l (k ∷ ks) below = (
  ap (λ o. ordering_then o (bool_cmp l.negated k.negated))
      (sym (nat_cmp_is l.variable k.variable Less below.0)),
  less_from_below l ks below.1,
)

sorted : (ls : List Literal) → Ascend ls → IsStrictlySortedBy literal_cmp ls
unfolding IsStrictlySortedBy
sorted [] up = tt
sorted (l ∷ ls) up = (less_from_below l ls up.0, sorted ls up.1)

rises_at : (ls : List Literal) → Ascend ls → (i : ℕ) (d : Literal) → suc i < length ls
    → (get_or ls i d).variable < (get_or ls (suc i) d).variable
rises_at [] up i d h = absurd (omega arith)
rises_at (l ∷ []) up i d h = absurd (omega arith)
rises_at (l ∷ k ∷ ks) up zero d h = up.0.0
rises_at (l ∷ k ∷ ks) up (suc i) d h = rises_at (k ∷ ks) up.1 i d (omega arith)

rises : (ls : List Literal) → Ascend ls → Rises ls (length ls)
rises ls up i d h =
    let place : suc i ≡ i + 1 = omega arith in rw (← place) (rises_at ls up i d (omega arith))

-- literals whose variables rise and lie below the width are a literal set
pub IsLiteralSet-from_ascend : (width : ℕ) (ls : List Literal) → Ascend ls → Within width ls
    → IsLiteralSet width ls
IsLiteralSet-from_ascend width ls up within = record {
  ordered = sorted ls up;
  apart = no_clash ls (length ls) (omega arith) (rises ls up);
  within = All-from_recursion (λ l. l.variable < width) ls within;
}

-- ---- some literals are left out, and one is put at the end

-- what each element has, those that pass a test have
pub all-filtered : {X : Type 0} (P : X → Type 0) (test : X → Bool) (xs : List X) → AllByRecursion P xs
    → AllByRecursion P (filter test xs)
all-filtered P test [] all = tt
all-filtered P test (x ∷ xs) all = grind (arith, nat_tests, all-filtered P test xs all.1)

-- what follows from what each element has, each element has
pub all-weaker : {X : Type 0} (P Q : X → Type 0) → ((x : X) → P x → Q x) → (xs : List X)
    → AllByRecursion P xs → AllByRecursion Q xs
all-weaker P Q more [] all = tt
all-weaker P Q more (x ∷ xs) all = (more x all.0, all-weaker P Q more xs all.1)

Ascend-filter : (test : Literal → Bool) (ls : List Literal) → Ascend ls → Ascend (filter test ls)
Ascend-filter test [] up = tt
Ascend-filter test (l ∷ ls) up =
    let below = all-filtered (λ (k : Literal). l.variable < k.variable) test ls up.0 in
    grind (arith, nat_tests, Ascend-filter test ls up.1)

below-push : (l w : Literal) (ks : List Literal) → IsBelow l ks → l.variable < w.variable
    → IsBelow l (ks ++ w ∷ [])
below-push l w [] below up = (up, tt)
below-push l w (k ∷ ks) below up = (below.0, below-push l w ks below.1 up)

Ascend-push : (n : ℕ) (ls : List Literal) → Ascend ls → Within n ls → Ascend (ls ++ node n ∷ [])
Ascend-push n [] up within = (tt, tt)
Ascend-push n (l ∷ ls) up within =
    (below-push l (node n) ls up.0 within.0, Ascend-push n ls up.1 within.1)

Within-push : (n : ℕ) (ls : List Literal) → Within n ls → Within (n + 1) (ls ++ node n ∷ [])
Within-push n [] within = (omega arith, tt)
Within-push n (l ∷ ls) within = (let h = within.0 in omega arith, Within-push n ls within.1)

-- ---- how much shorter a set gets

-- taking a literal out of a set does not make it longer
pub without-le : (l : Literal) (ls : List Literal) → length (without l ls) ≤ length ls
without-le l [] = omega arith
without-le l (k ∷ ks) = grind (arith, nat_tests, without-le l ks)

-- taking out a literal that a set has makes it shorter by one at least
pub without-shorter : (l : Literal) (ls : List Literal) → has_literal l ls ≡ true
    → length (without l ls) + 1 ≤ length ls
without-shorter l [] h = absurd cc
without-shorter l (k ∷ ks) h = grind (arith, nat_tests, without-le l ks, without-shorter l ks)

-- ---- the pair that is replaced next

-- two literals of a width, in order
pub record IsPair (width : ℕ) (pair : Pair) : Type 0 where
  pub order : pair.0.variable < pair.1.variable
  pub within : pair.1.variable < width

literal_itself : (l : Literal) → is_literal l l ≡ true
literal_itself l = ap is_eq (tied_itself literal_total l)

-- the first two literals of a term of degree 3 or more
pub has_own_pair : (p q : Literal) (ls : List Literal) (t : Term) → t.0 ≡ p ∷ q ∷ ls
    → is_long t ≡ true → has_pair (p, q) t ≡ true
has_own_pair p q ls t same long =
    let one = literal_itself p in
    let two = literal_itself q in
    grind (arith, nat_tests)

-- the first term begins with the pair that front_pair gives
pub front_is : (t : Term) (us : List Term) (pair : Pair) → front_pair (t ∷ us) ≡ Some pair
    → (ls : List Literal) × (t.0 ≡ pair.0 ∷ pair.1 ∷ ls)
front_is ([], c) us pair e = cc
front_is (p ∷ [], c) us pair e = cc
front_is (p ∷ q ∷ ls, c) us pair e =
    let same : (p, q) ≡ pair = cc in
    (ls, λ i. (same i).0 ∷ (same i).1 ∷ ls)

-- terms of which some has the pair
pub record IsFound (width : ℕ) (pair : Pair) (ts : List Term) : Type 0 where
  pub is_pair : IsPair width pair
  pub some : list_any (has_pair pair) ts ≡ true

-- the first two literals of a set are a pair of its width
pub pair_of_set : (width : ℕ) (p q : Literal) (ls ks : List Literal) → ks ≡ p ∷ q ∷ ls
    → IsTermSet width ks → IsPair width (p, q)
pair_of_set width p q ls ks same set =
    let here = subst (IsTermSet width) same set in
    let inside : Within width (p ∷ q ∷ ls) =
    recursion_from_All (λ l. l.variable < width) (p ∷ q ∷ ls) here.set.within in
    record {
      order = (IsLiteralSet-ascends width (p ∷ q ∷ ls) here.set).0.0;
      within = inside.1.0;
    }

-- the next pair is two literals of a term of degree 3 or more
pub found : (width : ℕ) (ts : List Term) (pair : Pair)
    → AllByRecursion (OfSet (IsTermSet width)) ts → next_pair ts ≡ Some pair
    → IsFound width pair ts
found width [] pair sets e = cc
found width (t ∷ ts) pair sets e =
    let later = found width ts pair sets.1 in
    let front = front_is t (filter is_long ts) pair in
    let own = λ (ls : List Literal). pair_of_set width pair.0 pair.1 ls t.0 in
    let has = λ (ls : List Literal). has_own_pair pair.0 pair.1 ls t in
    grind (arith, nat_tests)

-- ---- the sets after a substitution

-- the literals of a pair differ
pub pair_differs : (width : ℕ) (pair : Pair) → IsPair width pair → Differ pair
pair_differs width pair ok =
    let same = literal_same pair.1 pair.0 in
    let up = ok.order in
    grind (arith, nat_tests)

-- what is left of a set that has both is shorter by two
pub rest-shorter : (pair : Pair) (t : Term) → Differ pair → has_pair pair t ≡ true
    → length (rest_of pair t.0) + 2 ≤ length t.0
rest-shorter pair t differ has =
    let both = three_true (is_long t) (has_literal pair.0 t.0) (has_literal pair.1 t.0) has in
    omega (
      arith,
      without-shorter pair.1 t.0 both.1,
      without-shorter pair.0 (without pair.1 t.0) (has-without pair.0 pair.1 t.0 differ both.0),
    )

IsTermSet-new : (width : ℕ) (pair : Pair) (t : Term) → Differ pair → has_pair pair t ≡ true
    → IsTermSet width t.0 → IsTermSet (width + 1) (rest_of pair t.0 ++ node width ∷ [])
IsTermSet-new width pair t differ has set =
    let up = IsLiteralSet-ascends width t.0 set.set in
    let inside : Within width t.0 = recursion_from_All _ _ set.set.within in
    let p : Literal → Bool = λ k. not (is_literal pair.0 k) in
    let q : Literal → Bool = λ k. not (is_literal pair.1 k) in
    let up' = Ascend-filter p (filter q t.0) (Ascend-filter q t.0 up) in
    let W : Literal → Type 0 = λ l. l.variable < width in
    let inside' = all-filtered W p (filter q t.0) (all-filtered W q t.0 inside) in
    let shorter = rest-shorter pair t differ has in
    let short = set.short in
    record {
      set =
          IsLiteralSet-from_ascend (width + 1) _ (Ascend-push width (rest_of pair t.0) up' inside')
          (Within-push width (rest_of pair t.0) inside');
      short = omega (arith, length-append (rest_of pair t.0) (node width ∷ []));
    }

-- with the node in the place of the pair a term has a literal set of one more variable
pub new_term-set : (width : ℕ) (pair : Pair) (t : Term) → Differ pair → IsTermSet width t.0
    → IsTermSet (width + 1) (new_term pair (node width) t).0
new_term-set width pair t differ set =
    let new = IsTermSet-new width pair t differ in
    let kept = IsTermSet-wider width (width + 1) t.0 (omega arith) set in
    grind (arith, nat_tests)

-- with the node in the place of the pair all terms have literal sets of one more variable
pub new_terms-sets : (width : ℕ) (pair : Pair) (ts : List Term) → Differ pair
    → AllByRecursion (OfSet (IsTermSet width)) ts
    → AllByRecursion (OfSet (IsTermSet (width + 1))) (map (new_term pair (node width)) ts)
new_terms-sets width pair [] differ sets = tt
new_terms-sets width pair (t ∷ ts) differ sets =
    (new_term-set width pair t differ sets.0, new_terms-sets width pair ts differ sets.1)

-- the terms of a tie have literal sets of one more variable
pub tie_terms-sets : (width : ℕ) (pair : Pair) (m : ℕ) → IsPair width pair
    → AllByRecursion (OfSet (IsTermSet (width + 1))) (tie_terms pair (node width) m)
tie_terms-sets width pair m ok =
    let up = ok.order in
    let inside = ok.within in (
      IsTermSet-two (width + 1) pair.0 pair.1 up (omega arith),
      (
        IsTermSet-two (width + 1) pair.0 (node width) (omega arith) (omega arith),
        (
          IsTermSet-two (width + 1) pair.1 (node width) inside (omega arith),
          (IsTermSet-one (width + 1) (node width) (omega arith), tt),
        ),
      ),
    )

-- a substitution leaves sets of one more variable
pub replaced-sets : (width : ℕ) (pair : Pair) (ts : List Term) → IsPair width pair
    → All (OfSet (IsTermSet width)) ts
    → All (OfSet (IsTermSet (width + 1))) (replaced pair (node width) ts)
replaced-sets width pair ts ok sets =
    let differ = pair_differs width pair ok in
    All-append (OfSet (IsTermSet (width + 1))) (map (new_term pair (node width)) ts)
    (tie_terms pair (node width) (pair_total pair ts))
    (All-from_recursion _ _ (new_terms-sets width pair ts differ (recursion_from_All _ _ sets)))
    (All-from_recursion (OfSet (IsTermSet (width + 1)))
    (tie_terms pair (node width) (pair_total pair ts))
    (tie_terms-sets width pair (pair_total pair ts) ok))

-- ---- tables

-- terms in order, of sets of the width
abbrev pub IsSound : TableContent → Type 0
IsSound t = AreTerms t.width t.terms

-- a table with a new node for a pair has its terms in order, of sets of its width
pub IsSound-with_pair : (t : TableContent) (pair : Pair) → IsPair t.width pair → IsSound t
    → IsSound (with_pair pair t)
IsSound-with_pair t pair ok sound =
    AreTerms-with_additions (t.width + 1) (replaced pair (node t.width) t.terms)
    (replaced-sets t.width pair t.terms ok sound.sets)

-- the next pair is two literals of the table's width that a term of degree 3 or more has
pub found_in : (t : TableContent) (pair : Pair) → IsSound t → next_pair t.terms ≡ Some pair
    → IsFound t.width pair t.terms
found_in t pair sound e = found t.width t.terms pair (recursion_from_All _ _ sound.sets) e

-- one substitution leaves terms in order, of sets of the table's width
pub IsSound-substituted : (t : TableContent) → IsSound t → IsSound (substituted t)
IsSound-substituted t sound = go (next_pair t.terms) refl
  where
    go : (next : Option Pair) → next_pair t.terms ≡ next → IsSound (with_next next t)
    go None e = sound
    go (Some pair) e = IsSound-with_pair t pair (found_in t pair sound e).is_pair sound

-- so many substitutions leave terms in order, of sets of the table's width
pub IsSound-run : (k : ℕ) (t : TableContent) → IsSound t → IsSound (run k t)
IsSound-run zero t sound = sound
IsSound-run (suc k) t sound = IsSound-run k (substituted t) (IsSound-substituted t sound)
