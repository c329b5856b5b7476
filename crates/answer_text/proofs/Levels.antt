-- The least of sizes, taken one after another; and no size is above the sum of the sizes.
use Rattle.answer_text.proofs.Common.{nat_tests, ℕ, ◌+◌, ◌≤◌, List, [], ◌∷◌, Option, Some, None, arith, min, max, fold, sum_by-cons, Entry, weight_total, greatest_size, reduce, least_size, size, sizes}

-- ---- one size after another

-- the least of a number, where there is one, and of others
abbrev pub least_from : Option ℕ → List ℕ → Option ℕ
least_from None ns = reduce min ns
least_from (Some m) ns = Some (fold min m ns)

-- ---- bounds

fold_min-le : (m : ℕ) (ns : List ℕ) → fold min m ns ≤ m
fold_min-le m [] = omega arith
fold_min-le m (n ∷ ns) = omega (arith, fold_min-le (min m n) ns)

pub least-le : (es : List Entry) → least_size es ≤ weight_total es
least-le [] = omega arith
least-le (e ∷ es) =
    let least_is = least-le es in
    let fold = fold_min-le (size e) (sizes es) in
    let sum = sum_by-cons size e es in
    grind (arith, nat_tests)

fold_max-le : (m : ℕ) (es : List Entry) → fold max m (sizes es) ≤ m + weight_total es
fold_max-le m [] = omega arith
fold_max-le m (e ∷ es) =
    let fold_is = fold_max-le (max m (size e)) es in
    let max_is = fold_max-le m es in
    let sum = sum_by-cons size e es in
    grind (arith, nat_tests)

pub greatest-le : (es : List Entry) → greatest_size es ≤ weight_total es
greatest-le es = omega (arith, fold_max-le 0 es)
