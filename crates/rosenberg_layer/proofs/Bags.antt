-- A step on terms in no order is one on the same terms in order.
--
-- Two lists have the same terms where each number of a term has the same sum over both. So filters
-- and maps of the one and of the other have the same terms too.
use Rattle.rosenberg_layer.proofs.Common.{all-filtered, nat_tests, ◌≡◌, ◌≢◌, ℕ, ◌+◌, ◌≤◌, ◌||◌, Bool, true, false, cond, arith, refl, sym, ap, ◌∙◌, subst, List, [], ◌∷◌, ◌++◌, map, ℤ, Some, None, ◌^◌, sum_by, unsigned_abs, AllByRecursion, filter, IsPermutation, IsStrictlySortedBy, is_lt, Ordering, ints, append-nil, All-filter, All-from_recursion, recursion_from_All, filter-append, map-append, All-permutation, sum_by-IsPermutation, sum_by-append, sum_by-cons, total_by, total_by_is, total_by-append, Literal, Term, terms_total, coefficient_of-with_additions, Ascends, IsTermSet, TableContent, IsTable, OfSet, IsNonzero, node, Pair, is_long, has_pair, new_term, tie_terms, replaced, pair_total, with_pair, front_pair, next_pair, new_terms-sets, pair_differs, IsPair, IsSound-with_pair, tie_terms-sets, pair_of_set, begins, front_term, is_short, pair_cmp, pair_of, Begin, Follow, IsStep, weights, weight_of, AllLong, AreParts, IsTermSet-wider, long_after, all-weaker}
use borrow.Author.Differences.{up, down}
use Rattle.std.specs.declared.cmp.Ordering.TheVariants.{Less}
use Rattle.rosenberg_layer.proofs.Growth.{weights-append, weights-new_terms, weights-tie_terms}
use Rattle.rosenberg_layer.proofs.PairTerms.{all-have, begins-is, new_terms-split, none-later}
use Rattle.rosenberg_layer.proofs.GoBack.{all-append, all-left, all-right, is_plain, nonzero-new, sum-different, Different-ascends, Different-filter, Different-new}
use Rattle.rosenberg_layer.proofs.Parts.{filter-all, filter-ascends, filter-both, filter-none, filter-yes, given, long-replaced, new_terms-alike, new_terms-low, pair_total-long, parts-start, short-none_long, total-new, totals-both, weights-both}
use Rattle.rosenberg_layer.proofs.PairOrder.{all-follow}

-- ---- lists with the same terms

abbrev pub SameTerms : List Term → List Term → Type 0
SameTerms ts us = (f : Term → ℕ) → sum_by f ts ≡ sum_by f us

pub same-moved : (ts us : List Term) → IsPermutation ts us → SameTerms ts us
same-moved ts us moved = λ f. sym (sum_by-IsPermutation f ts us moved)

sum_by-filter : (f : Term → ℕ) (test : Term → Bool) (ts : List Term)
    → sum_by f (filter test ts) ≡ sum_by (λ t. cond (test t) (f t) 0) ts
sum_by-filter f test [] = refl
sum_by-filter f test (t ∷ ts) =
    let rest = sum_by-filter f test ts in
    let first = sum_by-cons f t (filter test ts) in
    simp sum_by-cons (grind (arith, nat_tests))

sum_by-map : (f : Term → ℕ) (g : Term → Term) (ts : List Term)
    → sum_by f (map g ts) ≡ sum_by (λ t. f (g t)) ts
sum_by-map f g [] = refl
sum_by-map f g (t ∷ ts) = omega (arith, sum_by-map f g ts, sum_by-cons)

same-filter : (test : Term → Bool) (ts us : List Term) → SameTerms ts us
    → SameTerms (filter test ts) (filter test us)
same-filter test ts us same = λ f.
    sum_by-filter f test ts ∙ same (λ t. cond (test t) (f t) 0) ∙ sym (sum_by-filter f test us)

same-map : (g : Term → Term) (ts us : List Term) → SameTerms ts us → SameTerms (map g ts) (map g us)
same-map g ts us same = λ f. sum_by-map f g ts ∙ same (λ t. f (g t)) ∙ sym (sum_by-map f g us)

-- a test that all terms of the one pass, all terms of the other pass
abbrev failed : (Term → Bool) → List Term → ℕ
failed test ts = sum_by (λ t. cond (test t) 0 1) ts

none-failed : (test : Term → Bool) (ts : List Term) → AllByRecursion (λ t. test t ≡ true) ts
    → failed test ts ≡ 0
none-failed test [] all = refl
none-failed test (t ∷ ts) all = grind (arith, nat_tests, none-failed test ts all.1)

all-passed : (test : Term → Bool) (ts : List Term) → failed test ts ≡ 0
    → AllByRecursion (λ t. test t ≡ true) ts
all-passed test [] none = tt
all-passed test (t ∷ ts) none =
    let zero = sym (sum_by-cons (λ u. cond (test u) 0 1) t ts) ∙ none in
    grind (arith, nat_tests, all-passed test ts)

all-same : (test : Term → Bool) (ts us : List Term) → SameTerms ts us
    → AllByRecursion (λ t. test t ≡ true) us → AllByRecursion (λ t. test t ≡ true) ts
all-same test ts us same all =
    all-passed test ts (same (λ t. cond (test t) 0 1) ∙ none-failed test us all)

-- terms in another order have the same total
same-total : (g : Term → ℤ) (ts us : List Term) → SameTerms ts us → total_by g ts ≡ total_by g us
same-total g ts us same =
    omega (arith, ints, total_by_is g ts, total_by_is g us, same (λ t. up (g t)), same (λ t. down (g t)))

-- no terms are the same as none
pub none-same : (ts us : List Term) → SameTerms ts us → us ≡ [] → ts ≡ []
none-same [] us same e = refl
none-same (t ∷ ts) us same e =
    let one = same (λ u. 1) in
    absurd (omega (arith, one, ap (sum_by (λ (u : Term). 1)) e, sum_by-cons (λ (u : Term). 1) t ts))

moved-all : (P : Term → Type 0) (ts us : List Term) → IsPermutation ts us → AllByRecursion P ts
    → AllByRecursion P us
moved-all P ts us moved all =
    recursion_from_All P us (All-permutation P ts us moved (All-from_recursion P ts all))

-- ---- terms in order, of which some begin with the pair, and the others come after it

-- no term that follows the pair begins with it
none-begins : (a : Pair) (ts : List Term) → Follow a ts
    → AllByRecursion (λ t. begins a t.0 ≡ false) ts
none-begins a [] follow = tt
none-begins a (t ∷ ts) follow = grind (arith, nat_tests, none-begins a ts follow.1)

-- it begins with the pair or follows it
abbrev is_from : Pair → Term → Bool
is_from a t = begins a t.0 || is_lt (pair_cmp a (pair_of t.0))

is-less : (o : Ordering) → is_lt o ≡ true → o ≡ Less
is-less o e = grind (arith, nat_tests)

-- the first begins with it, since all come after the first
first-is : (a : Pair) (ts : List Term) → Ascends ts → AllLong ts
    → AllByRecursion (λ t. is_from a t ≡ true) ts → filter (λ t. begins a t.0) ts ≢ []
    → front_pair ts ≡ Some a
unfolding IsStrictlySortedBy
first-is a [] ascends long from some = absurd (some refl)
first-is a (t ∷ ts) ascends long from some =
    let own = begins-is a.0 a.1 t.0 in
    let less =
    λ (e : is_lt (pair_cmp a (pair_of t.0)) ≡ true). filter-none (λ u. begins a u.0) ts
    (none-begins a ts (all-follow a t ts ascends.0 long (is-less _ e))) in
    grind (arith, nat_tests)

-- ---- the parts of a table, of which those of degree 3 or more stand in no order

pub record AreHeld (t : TableContent) (adds bag : List Term) (bound : ℕ) : Type 0 where
  pub parts : AreParts t adds (filter is_long t.terms) bound
  pub same : SameTerms (filter is_long t.terms) bag
  pub sets : AllByRecursion (OfSet (IsTermSet t.width)) bag

-- the terms with the pair become those at the front, of which those of lower degree are added
parts-step : (t : TableContent) (a : Pair) (adds adds' front rest : List Term) (m bound : ℕ)
    → AreParts t adds (filter is_long t.terms) bound → IsPair t.width a
    → SameTerms (map (new_term a (node t.width)) (filter is_long t.terms)) (front ++ rest)
    → AllByRecursion (OfSet (IsTermSet (t.width + 1))) front → pair_total a t.terms ≡ m
    → SameTerms (filter is_long (with_pair a t).terms) (rest ++ filter is_long front)
    → IsPermutation ((adds ++ filter is_short front) ++ tie_terms a (node t.width) m) adds'
    → AreParts (with_pair a t) adds' (filter is_long (with_pair a t).terms) bound
parts-step t a adds adds' front rest m bound parts ok new sets weight long moved =
    let w = node t.width in
    let high = filter is_long t.terms in
    let after = filter is_long (with_pair a t).terms in
    let up = filter is_long front in
    let down = filter is_short front in
    let ties = tie_terms a w m in
    let sound = IsSound-with_pair t a ok parts.sound in
    let wide : Term → Type 0 = OfSet (IsTermSet (t.width + 1)) in
    let low : Term → Type 0 = λ u. is_long u ≡ false in
    let all = same-moved ((adds ++ down) ++ ties) adds' moved in
    record {
      sound = sound;
      sums = λ ls.
          let f = given ls in
          omega (
            arith,
            ints,
            coefficient_of-with_additions ls (replaced a w t.terms),
            total_by-append f (map (new_term a w) t.terms) (tie_terms a w (pair_total a t.terms)),
            ap (λ k. total_by f (tie_terms a w k)) weight,
            new_terms-alike a w t.terms (adds ++ high) parts.sums ls,
            ap (total_by f) (map-append (new_term a w) adds high),
            total_by-append f (map (new_term a w) adds) (map (new_term a w) high),
            ap (total_by f) (new_terms-low a w adds parts.low),
            same-total f (map (new_term a w) high) (front ++ rest) new,
            total_by-append f front rest,
            filter-both f front,
            total_by-append f adds' after,
            same-total f ((adds ++ down) ++ ties) adds' all,
            total_by-append f (adds ++ down) ties,
            total_by-append f adds down,
            same-total f after (rest ++ up) long,
            total_by-append f rest up,
          );
      low =
          moved-all low ((adds ++ down) ++ ties) adds' moved
          (all-append low (adds ++ down) ties
          (all-append low adds down parts.low (short-none_long down (filter-yes is_short front)))
          (refl, (refl, (refl, (refl, tt)))));
      high = filter-yes is_long (with_pair a t).terms;
      ordered = filter-ascends is_long (with_pair a t).terms sound.ordered;
      nonzero = All-filter is_long IsNonzero (with_pair a t).terms sound.nonzero;
      sets =
          moved-all wide ((adds ++ down) ++ ties) adds' moved
          (all-append wide (adds ++ down) ties
          (all-append wide adds down (all-weaker (OfSet (IsTermSet t.width)) wide (λ u set. IsTermSet-wider t.width (t.width + 1) u.0 (omega arith) set)
          adds parts.sets) (all-filtered wide is_short front sets))
          (tie_terms-sets t.width a m ok));
      small =
          omega (
            arith,
            parts.small,
            all weight_of,
            weights-append (adds ++ down) ties,
            weights-append adds down,
            weights-tie_terms a w m,
            long weight_of,
            weights-append rest up,
            new weight_of,
            weights-append front rest,
            weights-both front,
            weights-new_terms a w high (pair_differs t.width a ok),
            pair_total-long a t.terms,
            weight,
          );
      total =
          let size : Term → ℕ = λ u. unsigned_abs u.1 in
          omega (
            arith,
            parts.total,
            long size,
            sum_by-append size rest up,
            new size,
            sum_by-append size front rest,
            totals-both front,
            total-new a w high,
          );
    }

-- the pair of a step is of two variables of the terms
pub step-pair : (n : ℕ) (pair : Pair) (w : Literal) (long low long' low' : List Term) (m : ℕ)
    → IsStep pair w long low long' low' m → AllByRecursion (OfSet (IsTermSet n)) long
    → IsPair n pair
step-pair n pair w long low long' low' m step sets =
    go step.touched step.rest step.taken.some step.taken.begin
    (moved-all (OfSet (IsTermSet n)) long (step.touched ++ step.rest) step.taken.whole sets)
  where
    go : (touched rest : List Term) → touched ≢ [] → Begin pair touched
        → AllByRecursion (OfSet (IsTermSet n)) (touched ++ rest) → IsPair n pair
    go [] rest some begin inside = absurd (some refl)
    go (t ∷ touched) rest some begin inside =
        let own = begins-is pair.0 pair.1 t.0 begin.0 in
        pair_of_set n pair.0 pair.1 own.0 t.0 own.1 inside.0

pub held-step : (t : TableContent) (a : Pair) (adds adds' low bag low' bag' : List Term) (m bound : ℕ)
    → AreHeld t adds bag bound → AllLong bag → (step : IsStep a (node t.width) bag low bag' low' m)
    → IsPermutation ((adds ++ filter is_short (map (front_term (node t.width)) step.touched))
    ++ tie_terms a (node t.width) m) adds'
    → AreHeld (with_pair a t) adds' bag' bound × (next_pair t.terms ≡ Some a)
held-step t a adds adds' low bag low' bag' m bound held long step moved =
    let n = t.width in
    let w = node n in
    let sorted = filter is_long t.terms in
    let touched = step.touched in
    let rest = step.rest in
    let all = touched ++ rest in
    let front = map (front_term w) touched in
    let up = filter is_long front in
    let parts : AreParts t adds sorted bound = held.parts in
    let begin = step.taken.begin in
    let same : SameTerms sorted all = λ f. held.same f ∙ same-moved bag all step.taken.whole f in
    let sets : AllByRecursion (OfSet (IsTermSet n)) all =
    moved-all (OfSet (IsTermSet n)) bag all step.taken.whole held.sets in
    let high : AllLong all = moved-all (λ u. is_long u ≡ true) bag all step.taken.whole long in
    let high-rest = all-right (λ u. is_long u ≡ true) touched rest high in
    let ok : IsPair n a = step-pair n a w bag low bag' low' m step held.sets in
    -- which terms have the pair
    let have = all-have a touched (all-left (λ u. is_long u ≡ true) touched rest high) begin in
    let none = none-later n a rest ok.order (all-right (OfSet (IsTermSet n)) touched rest sets) step.taken.others in
    let plain =
    all-same (is_plain a) sorted all same
    (all-append (λ u. is_plain a u ≡ true) touched rest
    (all-weaker (λ u. begins a u.0 ≡ true) (λ u. is_plain a u ≡ true) (λ u h. grind (arith, nat_tests)) touched begin)
    (all-weaker (λ u. has_pair a u ≡ false) (λ u. is_plain a u ≡ true) (λ u h. grind (arith, nat_tests)) rest none)) in
    let from =
    all-same (is_from a) sorted all same
    (all-append (λ u. is_from a u ≡ true) touched rest
    (all-weaker (λ u. begins a u.0 ≡ true) (λ u. is_from a u ≡ true) (λ u h. grind (arith, nat_tests)) touched begin)
    (all-weaker (λ u. pair_cmp a (pair_of u.0) ≡ Less) (λ u. is_from a u ≡ true) (λ u h. grind (arith, nat_tests)) rest
    step.taken.others)) in
    let taken : (test : Term → Bool) → AllByRecursion (λ u. test u ≡ true) touched
    → AllByRecursion (λ u. test u ≡ false) rest → SameTerms (filter test sorted) touched =
    λ test yes no f. same-filter test sorted all same f
    ∙ ap (sum_by f) (filter-append test touched rest
    ∙ (λ i. filter-all test touched yes i ++ filter-none test rest no i) ∙ append-nil touched) in
    let first =
    first-is a sorted parts.ordered parts.high from
    (λ e. step.taken.some (none-same touched _ (λ f. sym (taken (λ u. begins a u.0) begin
    (none-begins a rest step.taken.others) f)) e)) in
    let weight =
    pair_total-long a t.terms ∙ taken (has_pair a) have none (λ u. unsigned_abs u.1) ∙ sym step.weight in
    -- what they become
    let split : map (new_term a w) all ≡ front ++ rest = new_terms-split n a w touched rest sets have begin none in
    let new : SameTerms (map (new_term a w) sorted) (front ++ rest) =
    λ f. same-map (new_term a w) sorted all same f ∙ ap (sum_by f) split in
    let wide = OfSet (IsTermSet (n + 1)) in
    let new-sets : AllByRecursion wide (front ++ rest) =
    subst (AllByRecursion wide) split (new_terms-sets n a all (pair_differs n a ok) sets) in
    let front-sets = all-left wide front rest new-sets in
    let sorted-sets = all-filtered _ is_long t.terms (recursion_from_All _ t.terms parts.sound.sets) in
    let different =
    Different-filter is_long _ (Different-new n a sorted sorted-sets plain (Different-ascends sorted parts.ordered)) in
    let some =
    all-filtered IsNonzero is_long _
    (nonzero-new a w sorted (recursion_from_All IsNonzero sorted parts.nonzero)) in
    let after : SameTerms (filter is_long (with_pair a t).terms) (rest ++ up) =
    λ f.
    omega (
      arith,
      ap (sum_by f) (long-replaced t a),
      sum-different f (long_after a w sorted) different some,
      same-filter is_long (map (new_term a w) sorted) (front ++ rest) new f,
      ap (sum_by f) (filter-append is_long front rest),
      sum_by-append f up (filter is_long rest),
      ap (sum_by f) (filter-all is_long rest high-rest),
      sum_by-append f rest up,
    ) in (
      record {
        parts = parts-step t a adds adds' front rest m bound parts ok new front-sets weight after moved;
        same = λ f. after f ∙ same-moved (rest ++ up) bag' step.put_back f;
        sets =
            moved-all wide (rest ++ up) bag' step.put_back
            (all-append wide rest up (all-right wide front rest new-sets) (all-filtered wide is_long front front-sets));
      },
      first,
    )

-- ---- the start of a run

pub none-next : (t : TableContent) (adds bag : List Term) (bound : ℕ) → AreHeld t adds bag bound
    → bag ≡ [] → next_pair t.terms ≡ None
none-next t adds bag bound held none =
    ap front_pair (none-same (filter is_long t.terms) bag held.same none)

pub held-small : (t : TableContent) (adds bag : List Term) (bound : ℕ) → AreHeld t adds bag bound
    → terms_total bag ≤ 2 ^ 124
held-small t adds bag bound held =
    let small = held.parts.total in omega (arith, small, held.same (λ u. unsigned_abs u.1))

pub held-start : (t : TableContent) (bag : List Term) → IsTable t → bag ≡ filter is_long t.terms
    → AreHeld t (filter is_short t.terms) bag (weights t.terms)
held-start t bag table e = record {
  parts = parts-start t (weights t.terms) table.terms (omega arith) table.small;
  same = λ f. ap (sum_by f) (sym e);
  sets = rw e (all-filtered _ is_long t.terms (recursion_from_All _ t.terms table.terms.sets));
}
