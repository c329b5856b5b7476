-- Couplers in the order of their pairs, packed ones, equal neighbours as one, and couplers that came
-- in order.
use Rattle.pair_sums.proofs.Common.{nat_tests, ◌≡◌, ◌≢◌, ℕ, ◌+◌, ◌/◌, ◌<◌, ◌≤◌, ◌^◌, unsigned_abs, arith, sym, ap, ◌∙◌, refl, subst, List, [], ◌∷◌, ◌++◌, append_assoc, append-nil, length, map, ℤ, drop, Some, slice_get, OnErr, Result, Ok, Err, All, ints, IsPermutation, IsNonDecreasingBy, drop_more, get_or-map, length-map, map-append, slice_get_within, get_or_from_slice_get, All-permutation, IsPermutation-append_comm, sum_by-IsPermutation, All-nil, All-push, All-tail, All-weaker, recursion_from_All, total_by-IsPermutation, Entry, pair_number, IsPair, IsNonzero, weight_for, entry_in_front, sums_from, AreSummed, Shape, numbers_of, coupler_of, listed, low_of, AreListed, IsFound, KeepsWeights, AreAscending, AreGathered}
use Rattle.pair_sums.proofs.PairOrder.{Rises, ordered_from_rising}
use Rattle.pair_sums.proofs.SummedPairs.{sums_from-other}

-- ---- the order of their pairs

-- that of what entries are made of
pub ordered-map : {X : Type 0} (entry : X → Entry) (n : Entry → ℕ) (xs : List X) (x : X)
    → IsNonDecreasingBy (λ y. n (entry y)) xs → IsNonDecreasingBy n (map entry xs)
ordered-map entry n xs x up = λ i j d le in'.
    let here : j < length xs = omega (arith, in', length-map xs entry) in
    omega (
      arith,
      ap n (get_or-map entry xs i x d (omega (arith, le, here))),
      ap n (get_or-map entry xs j x d here),
      up i j x le here,
    )

-- a code with greater nodes has no lesser pair
pub codes-ordered : (shape : Shape) (c d : ℕ) (w v : ℤ) → c / numbers_of shape ≤ d / numbers_of shape
    → pair_number (coupler_of shape c w) ≤ pair_number (coupler_of shape d v)
codes-ordered shape c d w v le = grind (arith, nat_tests, ints)

-- ---- codes beside a list of weights

-- more weights change no coupler
pub listed-kept : (shape : Shape) (ws vs : List ℤ) (codes : List ℕ) → KeepsWeights ws vs
    → AreListed shape ws codes → map (listed shape vs) codes ≡ map (listed shape ws) codes
listed-kept shape ws vs [] kept all = refl
listed-kept shape ws vs (c ∷ cs) kept all =
    let here : low_of shape c < length ws = all 0 c (omega arith) in
    let rest = listed-kept shape ws vs cs kept (All-tail (λ d. low_of shape d < length ws) c cs all) in
    λ k. coupler_of shape c (kept.same (low_of shape c) here k) ∷ rest k

pub on_err : {T E P : Type 0} (r : Result T E) → P → OnErr r P
on_err (Ok x) p = tt
on_err (Err e) p = p

pub listed-push : (shape : Shape) (ws vs : List ℤ) (codes : List ℕ) (c : ℕ) (e : Entry)
    → KeepsWeights ws vs → AreListed shape ws codes → IsFound vs e.weight (low_of shape c)
    → coupler_of shape c e.weight ≡ e
    → map (listed shape vs) (codes ++ c ∷ []) ≡ map (listed shape ws) codes ++ e ∷ []
listed-push shape ws vs codes c e kept all found nodes =
    grind (arith, nat_tests, ints, listed-kept, map-append)

-- ---- neighbours of one pair

-- a list from an entry on
pub drop-one : (es : List Entry) (n : ℕ) (e : Entry) → slice_get es n ≡ Some e
    → drop n es ≡ e ∷ drop (n + 1) es
drop-one es n e at =
    drop_more es n e (slice_get_within es n e at)
    ∙ ap (λ d. d ∷ drop (n + 1) es) (get_or_from_slice_get es n e e at)

-- the pending one is appended, and the next one is pending
pub appended : (made new : List Entry) (p e : Entry) (es : List Entry) → pair_number p ≢ pair_number e
    → new ≡ made ++ entry_in_front p [] → new ++ sums_from e es ≡ made ++ sums_from p (e ∷ es)
appended made new p e es other pushed = grind (arith, nat_tests, append_assoc, sums_from-other)

-- ---- couplers that came in order

ascending-push : (es : List Entry) (e : Entry) (last : ℕ) → AreAscending es
    → All (λ f. pair_number f ≤ last) es → last < pair_number e → AreAscending (es ++ e ∷ [])
ascending-push [] e last up low less = (All-nil (λ (f : Entry). pair_number e < pair_number f), tt)
ascending-push (f ∷ fs) e last up low less =
    let one : pair_number f ≤ last = low 0 f (omega arith) in (
      All-push (λ (g : Entry). pair_number f < pair_number g) fs e up.0 (omega (arith, one, less)),
      ascending-push fs e last up.1 (All-tail (λ (g : Entry). pair_number g ≤ last) f fs low) less,
    )

-- one more of them
pub gathered-push : (es : List Entry) (e : Entry) (last next : ℕ) → AreGathered es last → last < next
    → next ≡ pair_number e → IsNonzero e → AreGathered (es ++ e ∷ []) next
gathered-push es e last next held less is some = record {
  ascending = ascending-push es e last held.ascending held.upto (omega (arith, less, is));
  upto = All-push (λ (f : Entry). pair_number f ≤ next) es e
      (All-weaker (λ (f : Entry). pair_number f ≤ last) (λ (f : Entry). pair_number f ≤ next)
      (λ f le. omega (arith, le, less)) es held.upto)
      (omega (arith, is));
  nonzero = All-push IsNonzero es e held.nonzero some;
}

rises : (es : List Entry) → AreAscending es → Rises es
rises [] up = tt
rises (e ∷ es) up =
    (recursion_from_All (λ (f : Entry). pair_number e < pair_number f) es up.0, rises es up.1)

-- they are summed already
pub summed-ordered : (es : List Entry) (last : ℕ) (others : List Entry) → AreGathered es last
    → others ≡ [] → All (IsPair (2 ^ 32)) (es ++ others) → AreSummed (es ++ others) es
summed-ordered es last others held none pairs =
    grind (arith, nat_tests, append-nil, ordered_from_rising, recursion_from_All, rises)

-- both lists, in the other order
pub joined-permuted : (es others all whole : List Entry) → es ++ others ≡ whole → all ≡ others ++ es
    → IsPermutation whole all
joined-permuted es others all whole view joined =
    subst (λ fs. IsPermutation fs all) view
    (subst (λ fs. IsPermutation (es ++ others) fs) (sym joined) (IsPermutation-append_comm es others))

-- the order of what is summed does not matter
pub summed-permuted : (xs ys es : List Entry) → IsPermutation xs ys → AreSummed ys es → AreSummed xs es
summed-permuted xs ys es moved summed = record {
  ordered = summed.ordered;
  nonzero = summed.nonzero;
  pairs = λ n all. summed.pairs n (All-permutation (IsPair n) xs ys moved all);
  sums = λ i j. summed.sums i j ∙ total_by-IsPermutation (weight_for i j) xs ys moved;
  small = omega (arith, summed.small, sum_by-IsPermutation (λ (e : Entry). unsigned_abs e.weight) xs ys moved);
}
