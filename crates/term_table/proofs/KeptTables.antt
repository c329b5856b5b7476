-- An addition to a table leaves a table.
use Rattle.term_table.proofs.Common.{nat_tests, ints, ◌≡◌, ◌+◌, ◌≤◌, ◌^◌, ℕ, ℤ, List, [], ◌∷◌, ◌++◌, ap, arith, unsigned_abs, All, Result, OnOk, OnErr, All-push, Literal, Term, with_additions, terms_total, IsTermSet, Run, merged_terms, settled, with_entry, one_run, TableContent, kept_in, with_added, with_all, with_appended, IsTable, IsKept, AreAdditions}
use Rattle.term_table.proofs.Additions.{terms_total-with_addition, terms_total-append, terms_total-cons, terms_total-more, terms_total-with_additions}
use Rattle.term_table.proofs.KeptTerms.{OfSet, AreTerms-with_additions}
use Rattle.term_table.proofs.SettlingRuns.{AreRuns-settled, AreRuns-with_entry}
use Rattle.term_table.proofs.Runs.{AreRuns-one_run, AreTerms-merged, merged_terms-one_run, merged_terms-with_entry, merged_terms-with_sums}

-- a table's runs make a table
pub IsTable-kept : (width : ℕ) (runs : List Run) → IsKept width runs
    → IsTable (record { width = width; terms = merged_terms runs })
IsTable-kept width runs kept = record {
  terms = AreTerms-merged width runs kept.runs.terms;
  small = kept.small;
}

pub IsKept-with_entry : (width : ℕ) (runs : List Run) (ls : List Literal) (c : ℤ)
    → IsKept width runs → IsTermSet width ls → terms_total (merged_terms runs) + unsigned_abs c
    ≤ 2 ^ 124 → IsKept width (with_entry runs ls c)
IsKept-with_entry width runs ls c kept set small = record {
  runs = AreRuns-with_entry width runs ls c kept.runs set small;
  small =
      omega (arith, ap terms_total (merged_terms-with_entry runs ls c), terms_total-with_addition);
}

-- the sums of additions, put after the runs
pub IsKept-with_sums : (width : ℕ) (runs : List Run) (ts : List Term) → IsKept width runs
    → All (OfSet (IsTermSet width)) ts → terms_total (merged_terms runs) + terms_total ts ≤ 2 ^ 124
    → IsKept width (settled (runs ++ with_additions [] ts ∷ []))
IsKept-with_sums width runs ts kept sets small = record {
  runs =
      AreRuns-settled width runs (with_additions [] ts) kept.runs
      (AreTerms-with_additions width ts sets) (omega (arith, small, terms_total-with_additions ts));
  small = omega (arith, ap terms_total (merged_terms-with_sums runs ts), terms_total-more);
}

-- whether memory was left or not
pub IsKept-by_result : {E : Type 0} (r : Result (Unit {0}) E) (width : ℕ) (runs new next : List Run)
    → IsKept width runs → IsKept width next → OnOk r (new ≡ next) → OnErr r (new ≡ runs)
    → IsKept width new
IsKept-by_result r width runs new next before after done same = grind (arith, nat_tests)

-- what contracts see after it
pub content-by_result : {E : Type 0} (r : Result (Unit {0}) E) (width : ℕ) (runs new : List Run)
    (ls : List Literal) (c : ℤ) → OnOk r (new ≡ with_entry runs ls c)
    → OnOk r ((kept_in width new).content ≡ with_added (kept_in width runs).content ls c)
content-by_result r width runs new ls c done =
    grind (arith, nat_tests, ints, merged_terms-with_entry)

pub sums-by_result : {E : Type 0} (r : Result (Unit {0}) E) (width : ℕ) (runs new : List Run)
    (ts : List Term) → OnOk r (new ≡ settled (runs ++ with_additions [] ts ∷ []))
    → OnOk r ((kept_in width new).content ≡ with_all (kept_in width runs).content ts)
sums-by_result r width runs new ts done = grind (arith, nat_tests, merged_terms-with_sums)

-- ---- additions that are to be summed

AreAdditions-with_appended : (t : TableContent) (ls : List Literal) (c : ℤ) → AreAdditions t
    → IsTermSet t.width ls → terms_total t.terms + unsigned_abs c ≤ 2 ^ 124
    → AreAdditions (with_appended t ls c)
AreAdditions-with_appended t ls c all set small = record {
  sets = All-push (OfSet (IsTermSet t.width)) t.terms (ls, c) all.sets set;
  small = omega (arith, terms_total-append t.terms ((ls, c) ∷ []), terms_total-cons (ls, c) []);
}

-- whether memory was left or not
pub AreAdditions-by_result : {E : Type 0} (r : Result (Unit {0}) E) (t : TableContent)
    (ls : List Literal) (c : ℤ) (terms : List Term) → AreAdditions t → IsTermSet t.width ls
    → terms_total t.terms + unsigned_abs c ≤ 2 ^ 124
    → OnOk r (terms ≡ t.terms ++ (ls, c) ∷ []) → OnErr r (terms ≡ t.terms)
    → AreAdditions (record { width = t.width; terms = terms })
AreAdditions-by_result r t ls c terms all set small done same =
    let more = AreAdditions-with_appended t ls c all set small in grind (arith, nat_tests, ints)

-- the table of sums has one run
pub IsKept-with_additions : (t : TableContent) → AreAdditions t
    → IsKept t.width (one_run (with_additions [] t.terms))
IsKept-with_additions t all =
    let terms = AreTerms-with_additions t.width t.terms all.sets in
    let total = terms_total-with_additions t.terms in
    let runs = AreRuns-one_run t.width (with_additions [] t.terms) terms in
    grind (arith, nat_tests, merged_terms-one_run t.width (with_additions [] t.terms) terms)

-- what contracts see of it
pub listed-with_additions : (t : TableContent) → AreAdditions t
    → merged_terms (one_run (with_additions [] t.terms)) ≡ with_additions [] t.terms
listed-with_additions t all =
    merged_terms-one_run t.width (with_additions [] t.terms) (AreTerms-with_additions t.width t.terms all.sets)
