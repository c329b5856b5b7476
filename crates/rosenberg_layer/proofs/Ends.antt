-- The run ends: the sum of d - 2 over the terms of degree 3 or more falls with each substitution.
use Rattle.rosenberg_layer.proofs.Common.{◌≡◌, ℕ, zero, suc, ◌+◌, ◌-◌, ◌≤◌, arith, refl, sym, ap, ◌∙◌, List, [], ◌∷◌, length, Option, Some, None, AllByRecursion, filter, nat_tests, All-from_recursion, recursion_from_All, sum_by-append, Term, TableContent, IsLow, sets_sum-with_additions, node, Pair, is_long, with_pair, front_pair, next_pair, with_next, substituted, run, excess, image, IsSound, IsSound-substituted, found_in, pair_differs}
use Rattle.rosenberg_layer.proofs.Falls.{sum-falls, excess-falls}

-- ---- where no pair is left

abbrev IsShort : Term → Type 0
IsShort t = length t.0 ≤ 2

none-short : (ts : List Term) → next_pair ts ≡ None → AllByRecursion IsShort ts
none-short [] e = tt
none-short (t ∷ ts) e = grind (arith, nat_tests, none-short ts)

pub short-none : (ts : List Term) → AllByRecursion IsShort ts → filter is_long ts ≡ []
short-none [] low = refl
short-none (t ∷ ts) low = grind (arith, nat_tests, short-none ts low.1)

pub low-none : (t : TableContent) → IsLow t → next_pair t.terms ≡ None
low-none t low = ap front_pair (short-none t.terms (recursion_from_All IsShort t.terms low))

-- no pair is left exactly where the table is low
pub none-low : (t : TableContent) → next_pair t.terms ≡ None → IsLow t
none-low t e = All-from_recursion IsShort t.terms (none-short t.terms e)

substituted-none : (t : TableContent) → next_pair t.terms ≡ None → substituted t ≡ t
substituted-none t e = ap (λ next. with_next next t) e

pub run-none : (k : ℕ) (t : TableContent) → next_pair t.terms ≡ None → run k t ≡ t
run-none zero t e = refl
run-none (suc k) t e = ap (run k) (substituted-none t e) ∙ run-none k t e

-- ---- the measure

with_pair-falls : (t : TableContent) (pair : Pair) → IsSound t → next_pair t.terms ≡ Some pair
    → excess (with_pair pair t).terms + 1 ≤ excess t.terms
with_pair-falls t pair sound e =
    let found = found_in t pair sound e in
    let w = node t.width in
    let falls = excess-falls pair w (pair_differs t.width pair found.is_pair) in
    let sums = sum-falls (λ ls. length ls - 2) 1 pair w t.terms falls found.some in
    omega (arith, sums, sets_sum-with_additions (λ ls. length ls - 2), sum_by-append (λ (u : Term). length u.0 - 2))

-- each substitution takes from it
pub substituted-takes : (t : TableContent) → IsSound t → (pair : Pair)
    → next_pair t.terms ≡ Some pair → excess (substituted t).terms + 1 ≤ excess t.terms
substituted-takes t sound pair e = let falls = with_pair-falls t pair sound e in grind (arith, nat_tests)

pub substituted-falls : (t : TableContent) → IsSound t
    → excess (substituted t).terms ≤ excess t.terms
substituted-falls t sound =
    let falls = with_pair-falls t in
    grind (arith, nat_tests)

-- ---- the end

-- as many substitutions as the measure says leave no pair
pub run-ends : (k : ℕ) (t : TableContent) → IsSound t → excess t.terms ≤ k
    → next_pair (run k t).terms ≡ None
run-ends zero t sound enough = go (next_pair t.terms) refl
  where
    go : (next : Option Pair) → next_pair t.terms ≡ next → next_pair t.terms ≡ None
    go None e = e
    go (Some pair) e = absurd (omega (arith, with_pair-falls t pair sound e))
run-ends (suc k) t sound enough =
    go (next_pair t.terms) refl (IsSound-substituted t sound) (run-ends k)
  where
    go : (next : Option Pair) → next_pair t.terms ≡ next → IsSound (with_next next t)
        → ((u : TableContent) → IsSound u → excess u.terms ≤ k → next_pair (run k u).terms ≡ None)
        → next_pair (run k (with_next next t)).terms ≡ None
    go None e after rest = ap (λ (u : TableContent). next_pair u.terms) (run-none k t e) ∙ e
    go (Some pair) e after rest =
        rest (with_pair pair t) after (omega (arith, with_pair-falls t pair sound e))

-- further ones change nothing
pub run-more : (k m : ℕ) (t : TableContent) → IsSound t → excess t.terms ≤ k → run (k + m) t ≡ run k t
run-more k m t sound enough = run-plus k m t ∙ run-none m (run k t) (run-ends k t sound enough)
  where
    run-plus : (k m : ℕ) (t : TableContent) → run (k + m) t ≡ run m (run k t)
    run-plus zero m t = let e : 0 + m ≡ m = omega arith in ap (λ n. run n t) e
    run-plus (suc k) m t =
        let e : suc k + m ≡ suc (k + m) = omega arith in
        ap (λ n. run n t) e ∙ run-plus k m (substituted t)

-- a run that is long enough gives the image
pub run-image : (k : ℕ) (t : TableContent) → IsSound t → excess t.terms ≤ k → run k t ≡ image t
run-image k t sound enough =
    let n = excess t.terms in
    let e : n + (k - n) ≡ k = omega arith in
    ap (λ m. run m t) (sym e) ∙ run-more n (k - n) t sound (omega arith)

-- ---- laws

pub image-low : (t : TableContent) → IsLow t → image t ≡ t
image-low t low = run-none (excess t.terms) t (low-none t low)

pub image-next : (t : TableContent) → IsSound t → image t ≡ image (substituted t)
image-next t sound =
    let n = excess t.terms in
    sym (run-image (suc n) t sound (omega arith))
    ∙ run-image n (substituted t) (IsSound-substituted t sound) (substituted-falls t sound)

pub IsLow-image : (t : TableContent) → IsSound t → IsLow (image t)
IsLow-image t sound = none-low (image t) (run-ends (excess t.terms) t sound (omega arith))

-- ---- new nodes

pub run-nodes : (k : ℕ) (t : TableContent) → IsSound t
    → (run k t).width + excess (run k t).terms ≤ t.width + excess t.terms
run-nodes zero t sound = omega arith
run-nodes (suc k) t sound =
    let falls = with_pair-falls t in
    let after = IsSound-substituted t sound in
    grind (arith, nat_tests, run-nodes k)

pub nodes-few : (t : TableContent) → IsSound t → (image t).width ≤ t.width + excess t.terms
nodes-few t sound = omega (arith, run-nodes (excess t.terms) t sound)
