-- Runs: what their sums are, that settling keeps them, and what a table keeps of its runs.
use Rattle.term_table.proofs.Common.{nat_tests, ◌≡◌, ℕ, ◌+◌, ◌*◌, ◌<◌, ◌≤◌, ◌^◌, true, arith, ap, refl, List, [], ◌∷◌, ◌++◌, length, get_or, take, reverse, ℤ, pos, ◌+ℤ◌, unsigned_abs, All, inl, inr, AllByRecursion, is_eq, ints, cases_lt, reverse-append, take-append-le, take_all, get_or_append_left, get_or_push, length_push, append-nil, All-nil, All-push, All-append, All-head, recursion_from_All, if_so, total_by-append, total_by-flat_map, size-plus, Literal, Term, set_cmp, terms_total, coefficient_of, with_addition, with_additions, AreTerms, IsTermSet, Run, entries, merged_terms, sum_over, merged, is_empty, settled_with, settled_back, settled, with_entry, one_run, AreRuns, AreRests, AreOrdered, All-take, length-take-le, get_or-take, take-take}
use Rattle.term_table.proofs.Additions.{weight-with_additions, coefficient_of-with_additions, terms_total-cons}
use Rattle.term_table.proofs.KeptTerms.{OfSet, AreTerms-with_additions, Ascends-with_additions, Ascends-more, nonzero-with_additions, nonzero-more}
use Rattle.term_table.proofs.UniqueTerms.{same_terms}
use Rattle.term_table.proofs.MergingRuns.{merged-none}

-- ---- sums

pub reverse_more : {X : Type 0} (x : X) (xs : List X) → reverse (x ∷ xs) ≡ reverse xs ++ x ∷ []
reverse_more x xs = reverse-append (x ∷ []) xs

pub reverse_push : {X : Type 0} (xs : List X) (x : X) → reverse (xs ++ x ∷ []) ≡ x ∷ reverse xs
reverse_push xs x = reverse-append xs (x ∷ [])

pub sum_over-append : (ls : List Literal) (rs ss : List Run)
    → sum_over ls (rs ++ ss) ≡ sum_over ls rs +ℤ sum_over ls ss
sum_over-append ls rs ss = total_by-append (coefficient_of ls) rs ss

pub sum_over-reverse : (ls : List Literal) (rs : List Run)
    → sum_over ls (reverse rs) ≡ sum_over ls rs
sum_over-reverse ls [] = refl
sum_over-reverse ls (r ∷ rs) =
    grind (arith, nat_tests, sum_over-reverse ls rs, reverse_more, sum_over-append)

-- the merged view gives each set its sum
pub coefficient_of-merged : (ls : List Literal) (rs : List Run)
    → coefficient_of ls (merged_terms rs) ≡ sum_over ls rs
coefficient_of-merged ls rs =
    grind (arith, nat_tests, coefficient_of-with_additions, total_by-flat_map)

pub sum_over-merged : (ls : List Literal) (last before : Run) (older : List Run)
    → sum_over ls (merged before last ∷ older) ≡ sum_over ls (last ∷ before ∷ older)
sum_over-merged ls last before older =
    omega (arith, ints, weight-with_additions (λ ks. is_eq (set_cmp ls ks)) before last)

none_of_empty : (ls : List Literal) (r : Run) → is_empty r ≡ true → coefficient_of ls r ≡ pos 0
none_of_empty ls [] e = refl
none_of_empty ls (t ∷ ts) e = absurd cc

-- ---- settling keeps each sum

pub sum_over-settled_with : (ls : List Literal) (last : Run) (older : List Run)
    → sum_over ls (settled_with last older) ≡ sum_over ls (last ∷ older)
sum_over-settled_with ls last [] = grind (arith, nat_tests)
sum_over-settled_with ls last (before ∷ older) =
    let dropped = sum_over-settled_with ls before older in
    let joined = sum_over-settled_with ls (merged before last) older in
    let both = sum_over-merged ls last before older in
    grind (arith, nat_tests, ints, none_of_empty ls last)

settled_back_sum : (ls : List Literal) (rs : List Run)
    → sum_over ls (settled_back rs) ≡ sum_over ls rs
settled_back_sum ls [] = refl
settled_back_sum ls (r ∷ rs) = sum_over-settled_with ls r rs

pub sum_over-settled : (ls : List Literal) (runs : List Run)
    → sum_over ls (settled runs) ≡ sum_over ls runs
sum_over-settled ls runs = grind (arith, nat_tests, sum_over-reverse, settled_back_sum)

pub settled_is : (runs : List Run) (entry : Run)
    → settled (runs ++ entry ∷ []) ≡ reverse (settled_with entry (reverse runs))
settled_is runs entry = ap (λ rs. reverse (settled_back rs)) (reverse_push runs entry)

-- ---- runs after others

halve_push : (xs : List Run) (x : Run) → ((k : ℕ) → k + 1 < length xs
    → 2 * length (get_or xs (k + 1) []) ≤ length (get_or xs k [])) → ((n : ℕ) → n + 1 ≡ length xs
    → 2 * length x ≤ length (get_or xs n [])) → (k : ℕ) → k + 1 < length (xs ++ x ∷ [])
    → 2 * length (get_or (xs ++ x ∷ []) (k + 1) []) ≤ length (get_or (xs ++ x ∷ []) k [])
halve_push xs x before last k in' =
    grind (arith, nat_tests, length_push, get_or_append_left, cases_lt, get_or_push)

pub AreRuns-nil : (width : ℕ) → AreRuns width []
AreRuns-nil width = record {
  terms = All-nil (AreTerms width);
  some = All-nil (λ (r : Run). 1 ≤ length r);
  halve = λ k in'. absurd (omega (arith, in'));
  small = λ ls k. rw (take_all {A = Run} k [] (omega arith)) (omega arith);
}

pub AreRuns-push : (width : ℕ) (rs : List Run) (r : Run) → AreRuns width rs → AreTerms width r
    → 1 ≤ length r → ((n : ℕ) → n + 1 ≡ length rs → 2 * length r ≤ length (get_or rs n []))
    → ((ls : List Literal) → unsigned_abs (sum_over ls (rs ++ r ∷ [])) ≤ 2 ^ 124)
    → AreRuns width (rs ++ r ∷ [])
AreRuns-push width rs r kept terms some half small = record {
  terms = All-push (AreTerms width) rs r kept.terms terms;
  some = All-push (λ (s : Run). 1 ≤ length s) rs r kept.some some;
  halve = halve_push rs r kept.halve half;
  small = λ ls k. elim (cases_lt (length rs) k) [
    | inl above ↦ rw (take_all k (rs ++ r ∷ []) (omega (arith, above, length_push rs r))) (small ls)
    | inr below ↦ rw (take-append-le k rs (r ∷ []) below) (kept.small ls k)
  ];
}

pub AreRuns-take : (width : ℕ) (runs : List Run) (n : ℕ) → n ≤ length runs → AreRuns width runs
    → AreRuns width (take n runs)
AreRuns-take width runs n up kept =
    let long = length-take-le n runs up in
    record {
      terms = All-take (AreTerms width) n runs kept.terms;
      some = All-take (λ (r : Run). 1 ≤ length r) n runs kept.some;
      halve = λ k in'.
          let here = get_or-take n runs k [] (omega (arith, in', long)) in
          let next = get_or-take n runs (k + 1) [] (omega (arith, in', long)) in
          rw (here, next) (kept.halve k (omega (arith, in', long, up)));
      small = λ ls k. elim (cases_lt n k) [
        | inl above ↦ rw (take_all k (take n runs) (omega (arith, above, long))) (kept.small ls n)
        | inr below ↦ rw (take-take k n runs below) (kept.small ls k)
      ];
    }

-- ---- an addition

-- a set's coefficient is no more than all sizes
pub coefficient_small : (ls : List Literal) (ts : List Term)
    → unsigned_abs (coefficient_of ls ts) ≤ terms_total ts
coefficient_small ls [] = omega arith
coefficient_small ls (t ∷ ts) =
    grind (arith, nat_tests, coefficient_small ls ts, size-plus, terms_total-cons)

pub sum_small : (ls : List Literal) (runs : List Run)
    → unsigned_abs (sum_over ls runs) ≤ terms_total (merged_terms runs)
sum_small ls runs = grind (arith, nat_tests, coefficient_of-merged, coefficient_small)

-- the sums after an addition
sum_over-with_entry : (ks : List Literal) (runs : List Run) (ls : List Literal) (c : ℤ)
    → sum_over ks (with_entry runs ls c) ≡ sum_over ks runs +ℤ if_so (is_eq (set_cmp ks ls)) c
sum_over-with_entry ks runs ls c = grind (arith, nat_tests, ints, sum_over-settled, sum_over-append)

-- two ways to the same sums give the same merged view
same_view : (runs new : List Run) (ts : List Term)
    → ((ls : List Literal) → sum_over ls new ≡ sum_over ls runs +ℤ coefficient_of ls ts)
    → merged_terms new ≡ with_additions (merged_terms runs) ts
same_view runs new ts sums =
    same_terms (merged_terms new) (with_additions (merged_terms runs) ts)
    (Ascends-with_additions (entries new))
    (Ascends-more (merged_terms runs) ts (Ascends-with_additions (entries runs)))
    (nonzero-with_additions (entries new))
    (nonzero-more (merged_terms runs) ts (nonzero-with_additions (entries runs))) (λ ls.
    let more = weight-with_additions (λ ms. is_eq (set_cmp ls ms)) (merged_terms runs) ts in
    omega (arith, ints, coefficient_of-merged ls new, coefficient_of-merged ls runs, sums ls, more))

-- the merged view after an addition is that with the addition
pub merged_terms-with_entry : (runs : List Run) (ls : List Literal) (c : ℤ)
    → merged_terms (with_entry runs ls c) ≡ with_addition (merged_terms runs) ls c
merged_terms-with_entry runs ls c =
    same_view runs (with_entry runs ls c) ((ls, c) ∷ [])
    (λ ks. omega (arith, ints, sum_over-with_entry ks runs ls c))

-- and so is that after additions that are summed first
pub merged_terms-with_sums : (runs : List Run) (ts : List Term)
    → merged_terms (settled (runs ++ with_additions [] ts ∷ []))
    ≡ with_additions (merged_terms runs) ts
merged_terms-with_sums runs ts =
    let sums : Run = with_additions [] ts in
    same_view runs (settled (runs ++ sums ∷ [])) ts
    (λ ls. omega (arith, ints, sum_over-settled ls (runs ++ sums ∷ []), sum_over-append ls runs (sums ∷ []), coefficient_of-with_additions ls ts))

-- ---- runs that are made at once

pub AreTerms-merged : (width : ℕ) (runs : List Run) → All (AreTerms width) runs
    → AreTerms width (merged_terms runs)
AreTerms-merged width runs each =
    AreTerms-with_additions width (entries runs) (sets runs (recursion_from_All (AreTerms width) runs each))
  where
    sets : (rs : List Run) → AllByRecursion (AreTerms width) rs → All (OfSet (IsTermSet width)) (entries rs)
    sets [] each = All-nil (OfSet (IsTermSet width))
    sets (r ∷ rs) each =
        All-append (OfSet (IsTermSet width)) r (entries rs) each.0.sets (sets rs each.1)

pub merged_terms-one_run : (width : ℕ) (ts : List Term) → AreTerms width ts
    → merged_terms (one_run ts) ≡ ts
merged_terms-one_run width ts terms = grind (arith, nat_tests, append-nil, merged-none)

pub AreRuns-one_run : (width : ℕ) (ts : List Term) → AreTerms width ts → terms_total ts ≤ 2 ^ 124
    → AreRuns width (one_run ts)
AreRuns-one_run width [] terms small = AreRuns-nil width
AreRuns-one_run width (t ∷ ts) terms small =
    let total = ap terms_total (merged_terms-one_run width (t ∷ ts) terms) in
    AreRuns-push width [] (t ∷ ts) (AreRuns-nil width) terms (omega arith) (λ n e. absurd (omega (arith, e)))
    (λ ls. omega (arith, ints, sum_small ls ((t ∷ ts) ∷ []), total, small))

-- ---- what an iterator asks

-- so there are at most 64
pub few_runs : (width : ℕ) (runs : List Run) → AreRuns width runs
    → length (get_or runs 0 []) < 2 ^ 64 → length runs ≤ 64
few_runs width runs kept short = grind (arith, nat_tests)

-- a run alone is the merged view
pub merged_terms-only : (width : ℕ) (runs : List Run) (only : Run) → AreRuns width runs
    → length runs ≡ 1 → only ≡ get_or runs 0 only → merged_terms runs ≡ only
merged_terms-only width [] only kept one here = absurd (omega arith)
merged_terms-only width (r ∷ s ∷ rs) only kept one here = absurd (omega arith)
merged_terms-only width (r ∷ []) only kept one here =
    let terms = All-head (AreTerms width) r [] kept.terms in
    let same = merged-none r terms.ordered terms.nonzero in
    grind (arith, nat_tests, append-nil)

-- ordered runs without 0, listed one after another
pub ordered_each : (width : ℕ) (rs : List Run) → AllByRecursion (AreTerms width) rs → AreOrdered rs
ordered_each width [] each = tt
ordered_each width (r ∷ rs) each = ((each.0.ordered, each.0.nonzero), ordered_each width rs each.1)

pub AreRests-kept : (width : ℕ) (runs : List Run) → AreRuns width runs → AreRests runs
AreRests-kept width runs kept = record {
  ordered = ordered_each width runs (recursion_from_All (AreTerms width) runs kept.terms);
  small = kept.small;
}
