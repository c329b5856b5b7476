-- Two lists of entries in order, as one in order.
--
-- What is put together so far is in order before each of the two lists that are left. The lesser of
-- their next entries is in order before both of them.
use Rattle.chain_layer.proofs.Common.{◌≡◌, ℕ, zero, suc, ◌+◌, ◌-◌, ◌<◌, ◌≤◌, ◌^◌, List, [], ◌∷◌, ◌++◌, length, get_or, refl, sym, ap, subst, ◌∙◌, arith, append_assoc, IsPermutation, IsNonDecreasingBy, IsNonDecreasingBy-from_all_adjacent, AllAdjacentBelow, IsPermutation-append_comm, IsPermutation-append_right, IsPermutation-trans, Entry, pair_number, placed, place_number, AreFrom, AreAbove, AreOrdered}

pub from_least : (n m : ℕ) (es : List Entry) → n ≤ m → AreFrom m es → AreFrom n es
from_least n m [] less from = tt
from_least n m (e ∷ es) less from = omega (arith, less, from)

pub from_above : (n : ℕ) (es : List Entry) → AreAbove n es → AreFrom n es
from_above n [] above = tt
from_above n (e ∷ es) above = omega (arith, above.0)

pub none_above : (es : List Entry) → AreAbove (2 ^ 64 - 1) es → es ≡ []
none_above [] above = refl
none_above (e ∷ es) above = absurd (omega (arith, above.0, above.1))

-- an entry between what is before it and other entries after it
pub slip : (xs : List Entry) (x : Entry) (ys zs : List Entry) → AreOrdered (xs ++ x ∷ ys)
    → AreOrdered (xs ++ zs) → AreFrom (pair_number x) zs → AreOrdered (xs ++ x ∷ zs)
slip [] x ys zs one other from = (from, other)
slip (a ∷ []) x ys zs one other from = (one.0, (from, other.1))
slip (a ∷ b ∷ xs) x ys zs one other from = (one.0, slip (b ∷ xs) x ys zs one.1 other.1 from)

-- ---- as sorts say it

pub ordered_from_sorted : (es : List Entry) → IsNonDecreasingBy pair_number es → AreOrdered es
ordered_from_sorted [] sorted = tt
ordered_from_sorted (e ∷ []) sorted = (tt, tt)
ordered_from_sorted (e ∷ f ∷ es) sorted = (
  sorted 0 1 e (omega arith) (omega arith),
  ordered_from_sorted (f ∷ es) (λ i j d le in'. sorted (suc i) (suc j) d (omega (arith, le)) (omega (arith, in'))),
)

neighbours : (es : List Entry) → AreOrdered es
    → AllAdjacentBelow (λ e f. pair_number e ≤ pair_number f) es (length es)
neighbours [] ordered k d in' = absurd (omega (arith, in'))
neighbours (e ∷ []) ordered k d in' = absurd (omega (arith, in'))
neighbours (e ∷ f ∷ es) ordered zero d in' = ordered.0
neighbours (e ∷ f ∷ es) ordered (suc k) d in' =
    let same : suc k + 1 ≡ suc (k + 1) = omega arith in
    let rest = neighbours (f ∷ es) ordered.1 k d (omega (arith, in')) in
    omega (arith, rest, ap (λ j. pair_number (get_or (e ∷ f ∷ es) j d)) same)

pub sorted_from_ordered : (es : List Entry) → AreOrdered es → IsNonDecreasingBy pair_number es
sorted_from_ordered es ordered = IsNonDecreasingBy-from_all_adjacent pair_number es (neighbours es ordered)

pub placed_ordered : (cs : List Entry) (ps : List (ℕ × ℕ)) → IsNonDecreasingBy place_number ps
    → AreOrdered (placed cs ps)
placed_ordered [] ps sorted = tt
placed_ordered (c ∷ cs) [] sorted = tt
placed_ordered (c ∷ []) (p ∷ ps) sorted = (tt, tt)
placed_ordered (c ∷ d ∷ cs) (p ∷ []) sorted = (tt, tt)
placed_ordered (c ∷ d ∷ cs) (p ∷ r ∷ ps) sorted = (
  sorted 0 1 p (omega arith) (omega arith),
  placed_ordered (d ∷ cs) (r ∷ ps) (λ i j e le in'. sorted (suc i) (suc j) e (omega (arith, le)) (omega (arith, in'))),
)

-- where the first place has a number above the limit, no coupling is at or below it
pub placed_above : (limit n : ℕ) (cs : List Entry) (ps : List (ℕ × ℕ)) (d : ℕ × ℕ) → limit < n → n < 2 ^ 64
    → n ≡ place_number (get_or ps 0 d) → 0 < length ps → AreAbove limit (placed cs ps)
placed_above limit n [] ps d more small same some = tt
placed_above limit n (c ∷ cs) [] d more small same some = tt
placed_above limit n (c ∷ cs) (p ∷ ps) d more small same some =
    (omega (arith, more, same), omega (arith, small, same))

-- ---- one more entry

-- what is put together, and the two lists that are left
pub record IsMerged (all list ts left : List Entry) : Type 0 where
  -- they are all
  pub same : IsPermutation all (list ++ (ts ++ left))
  -- and it is in order before each of the two
  pub ties : AreOrdered (list ++ ts)
  pub places : AreOrdered (list ++ left)

-- the next entry of the first list, after those of the second that come before it
pub merged_next : (all list ts left more later rest : List Entry) (t : Entry) → IsMerged all list ts left
    → ts ≡ t ∷ later → more ++ rest ≡ list ++ left → AreAbove (pair_number t) rest
    → ((es : List Entry) → AreFrom (pair_number t) es → AreOrdered (list ++ left) → AreOrdered (list ++ es)
    → AreOrdered (more ++ es)) → IsMerged all (more ++ t ∷ []) later rest
merged_next all list ts left more later rest t so_far steps moved above before =
    let next = t ∷ later in
    let here : list ++ (left ++ next) ≡ more ++ (rest ++ next) =
    sym (append_assoc list left next) ∙ ap (λ l. l ++ next) (sym moved) ∙ append_assoc more rest next in
    let first = IsPermutation-append_right list (next ++ left) (left ++ next) (IsPermutation-append_comm next left) in
    let last = IsPermutation-append_right more (rest ++ next) (next ++ rest) (IsPermutation-append_comm rest next) in
    let both = IsPermutation-trans all _ _ (subst (λ es. IsPermutation all (list ++ (es ++ left))) steps so_far.same) first in
    let least : AreFrom (pair_number t) next = omega arith in
    let ordered = before next least so_far.places (subst (λ es. AreOrdered (list ++ es)) steps so_far.ties) in
    record {
      same = rw (append_assoc more (t ∷ []) (later ++ rest))
          (IsPermutation-trans all _ _ (subst (IsPermutation all) here both) last);
      ties = rw (append_assoc more (t ∷ []) later) ordered;
      places = rw (append_assoc more (t ∷ []) rest)
          (slip more t later rest ordered (subst AreOrdered (sym moved) so_far.places) (from_above (pair_number t) rest above));
    }
