-- Totals and sizes: each has a weight per term, and no substitution raises the sum of the weights.
--
-- For the total a term of coefficient a and degree d weighs |a| * (8 * (d - 2) + 1): a substitution
-- takes 8 * m from the terms that it touches, and the tie weighs 8 * m. For the size a term of degree
-- 3 or more weighs 14 * (d - 2) + 4: a substitution takes at least 14, and the tie and the node count
-- 14.
use Rattle.rosenberg_layer.proofs.Common.{◌≡◌, ℕ, zero, suc, ◌+◌, ◌-◌, ◌*◌, ◌^◌, ◌≤◌, cond, leb, arith, refl, ap, ◌∙◌, List, [], ◌∷◌, ◌++◌, map, length, Option, Some, None, ℤ, ◌+ℤ◌, unsigned_abs, AllByRecursion, match_ordering, Ordering, mul-le-mul_left, mul-le-mul_right, pow-succ', pow-zero, nat_tests, recursion_from_All, sum_by-cons, sum_by-append, size-plus, Literal, Term, set_cmp, set_size, terms_total, terms_size, in_front, with_addition, with_additions, IsTermSet, TableContent, table_size, sets_sum, sets_sum-cons, sets_sum-with_additions, terms_total-cons, same_set, node, Pair, has_pair, new_term, pair_total, tie_terms, replaced, with_pair, next_pair, with_next, run, image, rest_of, Differ, pair_total-cons, IsSound, IsSound-substituted, found_in, pair_differs, times_of, weight_of, weights, all-weaker}
use Rattle.std.specs.declared.cmp.Ordering.TheVariants.{Less, Equal, Greater}
use Rattle.rosenberg_layer.proofs.Falls.{Falls, sum-falls, has_pair-long, degree-falls}
use Rattle.rosenberg_layer.proofs.Ends.{IsLow-image}

-- ---- the weights of coefficients

pub weights-cons : (t : Term) (ts : List Term) → weights (t ∷ ts) ≡ weight_of t + weights ts
weights-cons t ts = sum_by-cons weight_of t ts

pub weights-append : (ts us : List Term) → weights (ts ++ us) ≡ weights ts + weights us
weights-append ts us = sum_by-append weight_of ts us

weights-in_front : (ls : List Literal) (c : ℤ) (ts : List Term)
    → weights (in_front ls c ts) ≤ unsigned_abs c * times_of ls + weights ts
weights-in_front ls c ts = let more = weights-cons (ls, c) ts in grind (arith, nat_tests)

weights-with_addition : (ts : List Term) (ls : List Literal) (c : ℤ)
    → weights (with_addition ts ls c) ≤ weights ts + unsigned_abs c * times_of ls
weights-with_addition [] ls c = omega (arith, weights-in_front ls c [])
weights-with_addition (t ∷ ts) ls c = go (set_cmp ls t.0) (same_set ls t.0) (weights-with_addition ts ls c)
  where
    go : (o : Ordering) → (o ≡ Equal → ls ≡ t.0)
        → weights (with_addition ts ls c) ≤ weights ts + unsigned_abs c * times_of ls → weights
        (match_ordering o (in_front ls c (t ∷ ts)) (in_front t.0 (t.1 +ℤ c) ts)
        (t ∷ with_addition ts ls c))
        ≤ weights (t ∷ ts) + unsigned_abs c * times_of ls
    go Less e rest = omega (arith, weights-in_front ls c (t ∷ ts))
    go Equal e rest =
        let more = mul-le-mul_right (times_of t.0) (size-plus t.1 c) in
        rw (e refl) (omega (arith, weights-in_front t.0 (t.1 +ℤ c) ts, more, weights-cons t ts))
    go Greater e rest = omega (arith, weights-cons)

weights-more : (table ts : List Term) → weights (with_additions table ts) ≤ weights table + weights ts
weights-more table [] = omega arith
weights-more table (t ∷ ts) =
    grind (arith, nat_tests, weights-more (with_addition table t.0 t.1) ts, weights-with_addition, weights-cons)

pub weights-with_additions : (ts : List Term) → weights (with_additions [] ts) ≤ weights ts
weights-with_additions ts = omega (arith, weights-more [] ts)

-- ---- a substitution

one-weight : (pair : Pair) (w : Literal) (t : Term) → Differ pair
    → weight_of (new_term pair w t) + 8 * cond (has_pair pair t) (unsigned_abs t.1) 0 ≤ weight_of t
one-weight pair w t differ =
    let high = has_pair-long pair t in
    let shorter = degree-falls pair w t differ in
    let less = λ (h : times_of (rest_of pair t.0 ++ w ∷ []) + 8 ≤ times_of t.0). mul-le-mul_left (unsigned_abs t.1) h in
    grind (arith, nat_tests)

pub weights-new_terms : (pair : Pair) (w : Literal) (ts : List Term) → Differ pair
    → weights (map (new_term pair w) ts) + 8 * pair_total pair ts ≤ weights ts
weights-new_terms pair w [] differ = omega arith
weights-new_terms pair w (t ∷ ts) differ =
    grind (arith, nat_tests, weights-new_terms pair w ts differ, one-weight, weights-cons, pair_total-cons)

pub weights-tie_terms : (pair : Pair) (w : Literal) (m : ℕ) → weights (tie_terms pair w m) ≡ 8 * m
weights-tie_terms pair w m = grind (arith, nat_tests)

-- what the terms become weighs no more
pub weights-replaced : (pair : Pair) (w : Literal) (ts : List Term) → Differ pair
    → weights (replaced pair w ts) ≤ weights ts
weights-replaced pair w ts differ =
    grind (arith, nat_tests, weights-append, weights-new_terms, weights-tie_terms)

pub weights-run : (k : ℕ) (t : TableContent) → IsSound t → weights (run k t).terms ≤ weights t.terms
weights-run zero t sound = omega arith
weights-run (suc k) t sound =
    go (next_pair t.terms) refl (IsSound-substituted t sound) (weights-run k)
  where
    go : (next : Option Pair) → next_pair t.terms ≡ next → IsSound (with_next next t)
        → ((u : TableContent) → IsSound u → weights (run k u).terms ≤ weights u.terms)
        → weights (run k (with_next next t)).terms ≤ weights t.terms
    go None e after rest = rest t sound
    go (Some pair) e after rest =
        let differ = pair_differs t.width pair (found_in t pair sound e).is_pair in
        omega (arith, rest (with_pair pair t) after, weights-replaced, weights-with_additions)

-- ---- the total

pub total-weights : (ts : List Term) → terms_total ts ≤ weights ts
total-weights [] = omega arith
total-weights (t ∷ ts) =
    grind (arith, nat_tests, total-weights ts, terms_total-cons t ts, weights-cons t ts)

abbrev IsShort : Term → Type 0
IsShort t = length t.0 ≤ 2048

weights-total : (ts : List Term) → AllByRecursion IsShort ts → weights ts ≤ terms_total ts * 2 ^ 15
weights-total [] short = omega arith
weights-total (t ∷ ts) short =
    let h = short.0 in
    let most : times_of t.0 ≤ 2 ^ 15 = omega arith in
    grind (arith, nat_tests, weights-total ts short.1, mul-le-mul_left, terms_total-cons, weights-cons)

-- all weights fit
pub weights-table : (t : TableContent) → IsSound t → weights t.terms ≤ terms_total t.terms * 2 ^ 15
weights-table t sound =
    weights-total t.terms
    (all-weaker (λ (u : Term). IsTermSet t.width u.0) IsShort (λ u set. set.short) t.terms
    (recursion_from_All _ _ sound.sets))

pub total-image : (t : TableContent) → IsSound t
    → terms_total (image t).terms + 1 ≤ (terms_total t.terms + 1) * 2 ^ 15
total-image t sound = omega (arith, total-weights, weights-run, weights-table)

-- ---- the size

-- what a set counts for the size, with what its substitutions add
abbrev pub room : List Literal → ℕ
room ls = cond (leb 3 (length ls)) (14 * (length ls - 2) + 4) (set_size ls)

pub square_is : (n : ℕ) → n ^ 2 ≡ n * n
square_is n =
    pow-succ' n 1 ∙ ap (λ m. n * m) (pow-succ' n 0 ∙ ap (λ m. n * m) (pow-zero n) ∙ omega arith)

set_size-low : (ls : List Literal) → length ls ≤ 2 → set_size ls ≤ 4
set_size-low [] low = omega arith
set_size-low (l ∷ []) low = omega arith
set_size-low (l ∷ k ∷ []) low = omega arith
set_size-low (l ∷ k ∷ m ∷ ls) low = absurd (omega arith)

set_size-high : (ls : List Literal) → 3 ≤ length ls → set_size ls ≡ length ls * length ls
set_size-high [] high = absurd (omega arith)
set_size-high (l ∷ ls) high = square_is (length (l ∷ ls))

room-high : (ls : List Literal) → 3 ≤ length ls → room ls ≡ 14 * (length ls - 2) + 4
room-high ls high = grind (arith, nat_tests)

room-low : (ls : List Literal) → length ls ≤ 2 → room ls ≡ set_size ls
room-low ls low = grind (arith, nat_tests)

room-below : (ls : List Literal) (d : ℕ) → length ls + 1 ≤ d → 3 ≤ d
    → room ls + 14 ≤ 14 * (d - 2) + 4
room-below ls d less high = grind (arith, nat_tests, set_size-low)

room-falls : (pair : Pair) (w : Literal) → Differ pair → Falls room 14 pair w
room-falls pair w differ = λ t has.
    let high = has_pair-long pair t has in
    let less = room-below (rest_of pair t.0 ++ w ∷ []) (length t.0) (degree-falls pair w t differ has) high in
    omega (arith, room-high t.0 high, less)

room-tie_terms : (pair : Pair) (w : Literal) (m : ℕ) → sets_sum room (tie_terms pair w m) ≡ 13
room-tie_terms pair w m = refl

with_pair-room : (t : TableContent) (pair : Pair) → IsSound t → next_pair t.terms ≡ Some pair
    → (with_pair pair t).width + sets_sum room (with_pair pair t).terms
    ≤ t.width + sets_sum room t.terms
with_pair-room t pair sound e =
    let found = found_in t pair sound e in
    let w = node t.width in
    let falls = room-falls pair w (pair_differs t.width pair found.is_pair) in
    let sums = sum-falls room 14 pair w t.terms falls found.some in
    omega (arith, sums, sets_sum-with_additions, sum_by-append, room-tie_terms pair w (pair_total pair t.terms))

pub room-run : (k : ℕ) (t : TableContent) → IsSound t
    → (run k t).width + sets_sum room (run k t).terms ≤ t.width + sets_sum room t.terms
room-run zero t sound = omega arith
room-run (suc k) t sound =
    let after = IsSound-substituted t sound in
    let more = with_pair-room t in
    grind (arith, nat_tests, room-run k)

-- 14 * (d - 2) + 4 grows by 14 with d, and 4 * d * d by more
few : (d : ℕ) → 3 ≤ d → 14 * (d - 2) + 4 ≤ 4 * (d * d)
few d h = grind (arith, nat_tests, mul-le-mul_right d h)

room-le : (ls : List Literal) → room ls ≤ 4 * set_size ls
room-le ls = grind (arith, nat_tests, set_size-high, few)

rooms-le : (ts : List Term) → sets_sum room ts ≤ 4 * terms_size ts
rooms-le [] = omega arith
rooms-le (t ∷ ts) =
    grind (arith, nat_tests, room-le t.0, rooms-le ts, sets_sum-cons room t ts, sets_sum-cons set_size t ts)

rooms-low : (ts : List Term) → AllByRecursion (λ (t : Term). length t.0 ≤ 2) ts
    → sets_sum room ts ≡ terms_size ts
rooms-low [] low = refl
rooms-low (t ∷ ts) low =
    omega (arith, room-low t.0 low.0, rooms-low ts low.1, sets_sum-cons room t ts, sets_sum-cons set_size t ts)

pub size-image : (t : TableContent) → IsSound t → table_size (image t) ≤ table_size t * 2 ^ 2
size-image t sound =
    let low = recursion_from_All (λ (u : Term). length u.0 ≤ 2) (image t).terms (IsLow-image t sound) in
    omega (arith, rooms-low, room-run, rooms-le)
