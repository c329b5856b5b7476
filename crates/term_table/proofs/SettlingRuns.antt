-- Steps of settling: the last run is merged with the one before it, or nothing more is done.
use Rattle.term_table.proofs.Common.{refl, nat_tests, ◌≡◌, ◌≢◌, ℕ, ◌+◌, ◌*◌, ◌<◌, ◌≤◌, ◌^◌, arith, length, get_or, take, List, [], ◌∷◌, ◌++◌, ap, ◌∙◌, append-nil, ℤ, pos, unsigned_abs, All, AllByRecursion, IsStrictlySortedBy, ints, take_all, All-nil, All-cons, All-from_recursion, Literal, Term, terms_total, coefficient_of, Ascends, Run, merged_terms, sum_over, merged, settled, one_run, AreRuns, AreSettling, suc, zero, add-one, take_more, All-get_or, get_or_default, total_by_more, size-plus, cases_lt, inl, inr, length-take-le, get_or-take, AreTerms, IsTermSet, int_eq, EntriesAreSmall, with_entry, false}
use Rattle.term_table.proofs.Additions.{terms_total-cons}
use Rattle.term_table.proofs.KeptTerms.{IsNonzero, Under, Ascends-more, nonzero-more, AreTerms-more, AreTerms-nil, AreTerms-with_addition}
use Rattle.term_table.proofs.UniqueTerms.{coefficient_of-first}
use Rattle.term_table.proofs.MergingRuns.{less_back}
use Rattle.term_table.proofs.Runs.{coefficient_small, sum_small, sum_over-append, sum_over-merged, AreRuns-push, AreRuns-take}
use Rattle.term_table.proofs.RunLaws.{settling_drops, settling_ends, settling_merges, settling_stays}

-- ---- how large an entry can be

-- each term of a run has its set's coefficient
entry_is : (r : Run) → Ascends r → AllByRecursion (λ (t : Term). coefficient_of t.0 r ≡ t.1) r
unfolding IsStrictlySortedBy
entry_is [] up = tt
entry_is (t ∷ ts) up = (coefficient_of-first t ts up.0, later ts up.0 (entry_is ts up.1))
  where
    later : (us : List Term) → Under t.0 us → AllByRecursion (λ (u : Term). coefficient_of u.0 ts
        ≡ u.1) us → AllByRecursion (λ (u : Term). coefficient_of u.0 (t ∷ ts) ≡ u.1) us
    later [] under all = tt
    later (u ∷ us) under all =
        let rest = later us under.1 all.1 in grind (arith, nat_tests, ints, less_back t.0 u.0)

-- and none is large where no sum is
entries_small : (r : Run) → Ascends r
    → ((ls : List Literal) → unsigned_abs (coefficient_of ls r) ≤ 2 ^ 125)
    → All (λ (t : Term). unsigned_abs t.1 ≤ 2 ^ 125) r
entries_small r up small =
    All-from_recursion (λ (t : Term). unsigned_abs t.1 ≤ 2 ^ 125) r (each r (entry_is r up))
  where
    each : (ts : Run) → AllByRecursion (λ (t : Term). coefficient_of t.0 r ≡ t.1) ts
        → AllByRecursion (λ (t : Term). unsigned_abs t.1 ≤ 2 ^ 125) ts
    each [] all = tt
    each (t ∷ ts) all = (omega (arith, ints, all.0, small t.0), each ts all.1)

-- the sums over the runs up to a run, and over those before it, are at most 2^124
pub run_small : (width : ℕ) (runs : List Run) (k : ℕ) → AreRuns width runs → k < length runs
    → All (λ (t : Term). unsigned_abs t.1 ≤ 2 ^ 125) (get_or runs k [])
run_small width runs k kept in' =
    entries_small (get_or runs k []) (All-get_or (AreTerms width) runs k [] in' kept.terms).ordered (λ ls.
    let one = total_by_more (coefficient_of ls) runs k [] in' in
    omega (arith, ints, kept.small ls k, kept.small ls (k + 1), one))

pub entries_of_runs : EntriesAreSmall
entries_of_runs width runs kept = λ k d in'.
    rw (get_or_default runs k d [] in') (run_small width runs k kept in')

-- ---- the end

-- the last run is short enough for the one before it
abbrev pub Fits : List Run → Run → ℕ → Type 0
Fits runs last kept = (n : ℕ) → kept ≡ n + 1 → 2 * length last ≤ length (get_or runs n [])

taken_last : (runs : List Run) (n : ℕ) → n < length runs
    → take (suc n) runs ≡ take n runs ++ get_or runs n [] ∷ []
taken_last runs n in' = rw add-one at (take_more runs n [] in')

settled_some : (runs : List Run) (last : Run) (kept : ℕ) → kept ≤ length runs → 1 ≤ length last
    → Fits runs last kept → settled (take kept runs ++ last ∷ []) ≡ take kept runs ++ last ∷ []
settled_some runs last zero up some fits = settling_ends last some
settled_some runs last (suc n) up some fits =
    rw (taken_last runs n (omega arith))
    (settling_stays (take n runs) (get_or runs n []) last some (fits n (omega arith)))

settled_done : (width : ℕ) (runs : List Run) (last : Run) (kept : ℕ) → AreRuns width runs
    → kept ≤ length runs → Fits runs last kept
    → settled (take kept runs ++ last ∷ []) ≡ take kept runs ++ one_run last
settled_done width runs (t ∷ ts) kept all up fits = settled_some runs (t ∷ ts) kept up (omega arith) fits
settled_done width runs [] zero all up fits = refl
settled_done width runs [] (suc n) all up fits =
    let before = get_or runs n [] in
    let some = All-get_or (λ (r : Run). 1 ≤ length r) runs n [] (omega arith) all.some in
    let half : Fits runs before n = λ m e. rw e (all.halve m (omega (arith, e, up))) in
    settling_drops (take (suc n) runs)
    ∙ rw (append-nil, taken_last runs n (omega arith)) (settled_some runs before n (omega arith) some half)

-- ---- the loop

-- the oldest runs that are left, and the last one, settle to what all do
pub record Settling (runs : List Run) (entry last : Run) (kept : ℕ) : Type 0 where
  pub steps : settled (runs ++ entry ∷ []) ≡ settled (take kept runs ++ last ∷ [])
  pub up : Ascends last
  pub some : All IsNonzero last
  pub small : (ls : List Literal) → unsigned_abs (sum_over ls (take kept runs ++ last ∷ [])) ≤ 2 ^ 124

pub settling_start : (runs : List Run) (entry : Run) → AreSettling runs entry
    → Settling runs entry entry (length runs)
settling_start runs entry all =
    let whole = take_all (length runs) runs (omega arith) in grind (arith, nat_tests)

pub settling_more : (runs : List Run) (entry last new : Run) (kept next : ℕ) → kept ≡ next + 1
    → kept ≤ length runs → length (get_or runs next []) < 2 * length last
    → new ≡ merged (get_or runs next []) last → AreSettling runs entry
    → Settling runs entry last kept → Settling runs entry new next
settling_more runs entry last new kept next down up long made all before =
    let first = get_or runs next [] in
    let rest = take next runs in
    let own = All-get_or (AreTerms all.width) runs next [] (omega arith) all.kept.terms in
    let list : take kept runs ≡ rest ++ first ∷ [] = rw down (take_more runs next [] (omega arith)) in
    rw made (record {
      steps =
          before.steps ∙ ap (λ (rs : List Run). settled (rs ++ last ∷ [])) list ∙ settling_merges rest first last long;
      up = Ascends-more first last own.ordered;
      some = nonzero-more first last own.nonzero;
      small = λ ls.
          omega (
            arith,
            ints,
            before.small ls,
            ap (λ (rs : List Run). sum_over ls (rs ++ last ∷ [])) list,
            sum_over-append ls (rest ++ first ∷ []) (last ∷ []),
            sum_over-append ls rest (first ∷ []),
            sum_over-append ls rest (merged first last ∷ []),
            sum_over-merged ls last first [],
          );
    })

-- what the loop merges has small entries
pub last_small : (runs : List Run) (entry last : Run) (kept : ℕ) → AreSettling runs entry
    → Settling runs entry last kept → All (λ (t : Term). unsigned_abs t.1 ≤ 2 ^ 125) last
last_small runs entry last kept all before =
    entries_small last before.up (λ ls.
    omega (arith, ints, before.small ls, all.kept.small ls kept, sum_over-append ls (take kept runs) (last ∷ [])))

pub settling_done : (runs : List Run) (entry last : Run) (kept : ℕ) → AreSettling runs entry
    → kept ≤ length runs → Fits runs last kept → Settling runs entry last kept
    → settled (runs ++ entry ∷ []) ≡ take kept runs ++ one_run last
settling_done runs entry last kept all up fits before =
    before.steps ∙ settled_done all.width runs last kept all.kept up fits

-- ---- an addition to a table's runs

-- a run of sums can be put after the runs
pub settling_run : (width : ℕ) (runs : List Run) (entry : Run) → AreRuns width runs → Ascends entry
    → All IsNonzero entry → terms_total (merged_terms runs) + terms_total entry ≤ 2 ^ 124
    → AreSettling runs entry
settling_run width runs entry kept up some small = record {
  width = width;
  kept = kept;
  up = up;
  some = some;
  small = λ ls. grind (arith, nat_tests, size-plus, coefficient_small, sum_over-append, sum_small);
}

pub settling_entry : (width : ℕ) (runs : List Run) (ls : List Literal) (c : ℤ) → AreRuns width runs
    → terms_total (merged_terms runs) + unsigned_abs c ≤ 2 ^ 124 → c ≢ pos 0
    → AreSettling runs ((ls, c) ∷ [])
unfolding IsStrictlySortedBy
settling_entry width runs ls c kept small some =
    settling_run width runs ((ls, c) ∷ []) kept (tt, tt)
    (All-cons IsNonzero (ls, c) [] some (All-nil IsNonzero))
    (omega (arith, small, terms_total-cons (ls, c) []))

runs_done : (width : ℕ) (runs : List Run) (entry last : Run) (kept : ℕ) → AreSettling runs entry
    → AreRuns width runs → kept ≤ length runs → AreTerms width last → Fits runs last kept
    → Settling runs entry last kept → AreRuns width (settled (runs ++ entry ∷ []))
runs_done width runs entry last kept all own up terms fits before =
    rw (settling_done runs entry last kept all up fits before) (go last terms fits before.small)
  where
    go : (r : Run) → AreTerms width r → Fits runs r kept
        → ((ls : List Literal) → unsigned_abs (sum_over ls (take kept runs ++ r ∷ [])) ≤ 2 ^ 124)
        → AreRuns width (take kept runs ++ one_run r)
    go [] terms fits small = rw append-nil (AreRuns-take width runs kept up own)
    go (t ∷ ts) terms fits small =
        let long = length-take-le kept runs up in
        AreRuns-push width (take kept runs) (t ∷ ts) (AreRuns-take width runs kept up own) terms (omega arith)
        (λ n e. rw (get_or-take kept runs n [] (omega (arith, e, long))) (fits n (omega (arith, e, long)))) small

runs_after : (width : ℕ) (runs : List Run) (entry last : Run) (kept : ℕ) → AreSettling runs entry
    → AreRuns width runs → kept ≤ length runs → AreTerms width last → Settling runs entry last kept
    → AreRuns width (settled (runs ++ entry ∷ []))
runs_after width runs entry last zero all own up terms before =
    runs_done width runs entry last zero all own up terms (λ n e. absurd (omega (arith, e))) before
runs_after width runs entry last (suc n) all own up terms before =
    let first = get_or runs n [] in
    let more = All-get_or (AreTerms width) runs n [] (omega arith) own.terms in
    elim (cases_lt (length first) (2 * length last)) [
      | inl long ↦
          runs_after width runs entry (merged first last) n all own (omega arith)
          (AreTerms-more width first last more terms.sets)
          (settling_more runs entry last _ (suc n) n (omega arith) up long refl all before)
      | inr short ↦
          let fits : Fits runs last (suc n) = λ m e.
          let same : n ≡ m = omega (arith, e) in rw (← same) short in
          runs_done width runs entry last (suc n) all own up terms fits before
    ]

pub AreRuns-settled : (width : ℕ) (runs : List Run) (entry : Run) → AreRuns width runs
    → AreTerms width entry → terms_total (merged_terms runs) + terms_total entry ≤ 2 ^ 124
    → AreRuns width (settled (runs ++ entry ∷ []))
AreRuns-settled width runs entry kept terms small =
    let all = settling_run width runs entry kept terms.ordered terms.nonzero small in
    runs_after width runs entry entry (length runs) all kept (omega arith) terms (settling_start runs entry all)

entry_terms : (width : ℕ) (ls : List Literal) (c : ℤ) → IsTermSet width ls → int_eq c (pos 0) ≡ false
    → AreTerms width ((ls, c) ∷ [])
entry_terms width ls c set some =
    grind (arith, nat_tests, AreTerms-with_addition width [] ls c (AreTerms-nil width) set)

pub AreRuns-with_entry : (width : ℕ) (runs : List Run) (ls : List Literal) (c : ℤ)
    → AreRuns width runs → IsTermSet width ls → terms_total (merged_terms runs) + unsigned_abs c
    ≤ 2 ^ 124 → AreRuns width (with_entry runs ls c)
AreRuns-with_entry width runs ls c kept set small =
    let settle = AreRuns-settled width runs ((ls, c) ∷ []) kept in
    grind (arith, nat_tests, settle, entry_terms width ls c set, terms_total-cons)
