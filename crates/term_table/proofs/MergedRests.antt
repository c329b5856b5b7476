-- Runs that are gone through together: the least set with which one of them begins is taken from all,
-- with the sum of its coefficients.
use Rattle.term_table.proofs.Common.{take-map, nat_tests, ◌≡◌, ℕ, zero, suc, ◌<◌, ◌≤◌, ◌^◌, Bool, true, false, cond, arith, length, get_or, take, map, List, [], ◌∷◌, ◌++◌, ap, ◌∙◌, refl, ℤ, pos, ◌+ℤ◌, unsigned_abs, All, AllByRecursion, IsStrictlySortedBy, is_eq, ints, length-append, All-tail, if_so, Literal, Term, set_cmp, in_front, with_addition, with_additions, coefficient_of, Ascends, Run, entries, merged_terms, sum_over, AreOrdered, without, NotBelow, Begins, IsLeast, AreRests}
use Rattle.term_table.proofs.SetOrder.{equal_of, same_set, set_itself}
use Rattle.term_table.proofs.Additions.{weight-in_front}
use Rattle.term_table.proofs.KeptTerms.{above, IsNonzero, Under, Under-with_addition, Under-further, Ascends-in_front, nonzero-in_front, Ascends-with_additions, nonzero-with_additions}
use Rattle.term_table.proofs.UniqueTerms.{coefficient_of-under, same_terms}
use Rattle.term_table.proofs.Runs.{coefficient_of-merged}

-- ---- one run, and a set that none of its sets is below

Under-without : (ls : List Literal) (r : Run) → Ascends r → NotBelow ls r → Under ls (without ls r)
unfolding IsStrictlySortedBy
Under-without ls [] up not = tt
Under-without ls (t ∷ ts) up not =
    grind (arith, nat_tests, above ls t.0, Under-further, same_set ls t.0, equal_of)

Ascends-without : (ls : List Literal) (r : Run) → Ascends r → Ascends (without ls r)
unfolding IsStrictlySortedBy
Ascends-without ls r up = grind (arith, nat_tests)

nonzero-without : (ls : List Literal) (r : Run) → All IsNonzero r → All IsNonzero (without ls r)
nonzero-without ls [] some = some
nonzero-without ls (t ∷ ts) some =
    let rest = All-tail IsNonzero t ts some in grind (arith, nat_tests)

cond_small : (b : Bool) (z : ℤ) → unsigned_abs z ≤ 2 ^ 124 → unsigned_abs (cond b (pos 0) z) ≤ 2 ^ 124
cond_small b z small = grind (arith, nat_tests)

coefficient_of-rest : (ks ls : List Literal) (r : Run) → is_eq (set_cmp ks ls) ≡ false
    → coefficient_of ks (without ls r) ≡ coefficient_of ks r
coefficient_of-rest ks ls [] e = refl
coefficient_of-rest ks ls (t ∷ ts) e =
    grind (arith, nat_tests, same_set ls t.0, equal_of (set_cmp ls t.0))

-- the set has no coefficient left, and each other set has what it had
coefficient_of-without : (ks ls : List Literal) (r : Run) → Ascends r → NotBelow ls r
    → coefficient_of ks (without ls r) ≡ cond (is_eq (set_cmp ks ls)) (pos 0) (coefficient_of ks r)
coefficient_of-without ks ls r up not =
    let under = Under-without ls r up not in
    let rest = coefficient_of-rest ks ls r in
    grind (arith, nat_tests, under, rest, coefficient_of-under, same_set ks ls, equal_of)

-- ---- all runs

pub AreOrdered-without : (ls : List Literal) (rs : List Run) → AreOrdered rs
    → AreOrdered (map (without ls) rs)
AreOrdered-without ls [] all = tt
AreOrdered-without ls (r ∷ rs) all =
    ((Ascends-without ls r all.0.0, nonzero-without ls r all.0.1), AreOrdered-without ls rs all.1)

sum_over-without : (ks ls : List Literal) (rs : List Run) → AreOrdered rs
    → AllByRecursion (NotBelow ls) rs
    → sum_over ks (map (without ls) rs) ≡ cond (is_eq (set_cmp ks ls)) (pos 0) (sum_over ks rs)
sum_over-without ks ls [] all not = grind (arith, nat_tests)
sum_over-without ks ls (r ∷ rs) all not =
    grind (arith, nat_tests, sum_over-without ks ls rs all.1 not.1, coefficient_of-without)

rests_taken : (P : Run → Type 0) (rs : List Run) (k : ℕ) → AllByRecursion P rs
    → AllByRecursion P (take k rs)
rests_taken P rs zero all = tt
rests_taken P [] (suc k) all = tt
rests_taken P (r ∷ rs) (suc k) all = (all.0, rests_taken P rs k all.1)

pub AreRests-without : (ls : List Literal) (rs : List Run) → AreRests rs → IsLeast ls rs
    → AreRests (map (without ls) rs)
AreRests-without ls rs rests least = record {
  ordered = AreOrdered-without ls rs rests.ordered;
  small = λ ks k.
      let ordered = rests_taken (λ (r : Run). Ascends r × All IsNonzero r) rs k rests.ordered in
      let below = rests_taken (NotBelow ls) rs k least.below in
      rw (take-map, sum_over-without ks ls (take k rs) ordered below)
      (cond_small (is_eq (set_cmp ks ls)) (sum_over ks (take k rs)) (rests.small ks k));
}

-- ---- the merged view

Under-more : (ls : List Literal) (table ts : List Term) → Under ls table → Under ls ts
    → Under ls (with_additions table ts)
Under-more ls table [] under each = under
Under-more ls table (t ∷ ts) under each =
    Under-more ls (with_addition table t.0 t.1) ts (Under-with_addition ls table t.0 t.1 each.0 under) each.1

Under-append : (ls : List Literal) (ts us : List Term) → Under ls ts → Under ls us → Under ls (ts ++ us)
Under-append ls [] us first second = second
Under-append ls (t ∷ ts) us first second = (first.0, Under-append ls ts us first.1 second)

Under-entries : (ls : List Literal) (rs : List Run) → AreOrdered rs → AllByRecursion (NotBelow ls) rs
    → Under ls (entries (map (without ls) rs))
Under-entries ls [] all not = tt
Under-entries ls (r ∷ rs) all not =
    Under-append ls (without ls r) (entries (map (without ls) rs)) (Under-without ls r all.0.0 not.0)
    (Under-entries ls rs all.1 not.1)

-- what stands at the one set, and what stands at each other
at_either : (same : Bool) (here all x y : ℤ) → (same ≡ true → all ≡ here)
    → x ≡ if_so same here +ℤ y → y ≡ cond same (pos 0) all → all ≡ x
at_either same here all x y one inside rest = grind (arith, nat_tests, ints)

-- the least set comes first, unless its sum is 0
pub merged_terms-least : (ls : List Literal) (rs : List Run) → AreRests rs → IsLeast ls rs
    → merged_terms rs ≡ in_front ls (sum_over ls rs) (merged_terms (map (without ls) rs))
merged_terms-least ls rs rests least =
    let later = map (without ls) rs in
    let c = sum_over ls rs in
    let terms = merged_terms later in
    let under : Under ls terms =
    Under-more ls [] (entries later) tt (Under-entries ls rs rests.ordered least.below) in
    same_terms (merged_terms rs) (in_front ls c terms) (Ascends-with_additions (entries rs))
    (Ascends-in_front ls c terms under (Ascends-with_additions (entries later)))
    (nonzero-with_additions (entries rs))
    (nonzero-in_front ls c terms (nonzero-with_additions (entries later))) (λ ks.
    coefficient_of-merged ks rs
    ∙ at_either (is_eq (set_cmp ks ls)) c (sum_over ks rs) (coefficient_of ks (in_front ls c terms)) (coefficient_of ks terms)
    (λ e. ap (λ ms. sum_over ms rs) (same_set ks ls (equal_of (set_cmp ks ls) e)))
    (weight-in_front (λ ms. is_eq (set_cmp ks ms)) ls c terms)
    (coefficient_of-merged ks later ∙ sum_over-without ks ls rs rests.ordered least.below))

-- ---- less is left

length-without : (ls : List Literal) (r : Run) → length (without ls r) ≤ length r
length-without ls r = grind (arith, nat_tests)

length-begins : (ls : List Literal) (r : Run) → Begins ls r → length (without ls r) < length r
length-begins ls r b = grind (arith, nat_tests, set_itself)

length-all : (ls : List Literal) (rs : List Run)
    → length (entries (map (without ls) rs)) ≤ length (entries rs)
length-all ls [] = omega arith
length-all ls (r ∷ rs) = grind (arith, nat_tests, length-all ls rs, length-append, length-without)

fewer : (ls : List Literal) (rs : List Run) (k : ℕ) → Begins ls (get_or rs k [])
    → length (entries (map (without ls) rs)) < length (entries rs)
fewer ls [] k b = absurd b
fewer ls (r ∷ rs) zero b = grind (arith, nat_tests, length-append, length-begins, length-all ls rs)
fewer ls (r ∷ rs) (suc k) b =
    grind (arith, nat_tests, fewer ls rs k b, length-append, length-without)

pub length-least : (ls : List Literal) (rs : List Run) → IsLeast ls rs
    → length (entries (map (without ls) rs)) < length (entries rs)
length-least ls rs least = fewer ls rs least.place least.begins
