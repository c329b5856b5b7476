use Rattle.term_table.proofs.Common.{IsTermSet, All, ℕ, ap, ◌∙◌, AreSettling, merged_terms, terms_total, sym, ◌^◌, ◌≤◌, nat_tests, ◌≡◌, ◌+◌, ◌++◌, ◌∷◌, [], arith, subst, List, OnOk, with_additions, Run, settled, TableContent, KeptTable}
use Rattle.term_table.proofs.Additions.{terms_total-with_additions}
use Rattle.term_table.proofs.KeptTerms.{OfSet, Ascends-with_additions, nonzero-with_additions}
use Rattle.term_table.proofs.SettlingRuns.{settling_run}
use Rattle.term_table.proofs.KeptTables.{IsKept-by_result, IsKept-with_sums, sums-by_result}
use Rattle.term_table.proofs.table.Table.add_gathered.Goals as goal

pub append_run-requires : goal.append_run-requires
append_run-requires c =
    let width = c.self.inside.width in
    let runs : List Run = c.self.inside.runs.items in
    let all : TableContent = record { width = c.gathered.inside.width; terms = c.gathered.inside.terms.items } in
    let small : terms_total (merged_terms runs) + terms_total all.terms ≤ 2 ^ 124 =
    rw (← c.self.view_is, ← c.gathered.view_is) at c.requires.small in
    subst (AreSettling runs) (sym c.sorted_sums.ensures)
    (settling_run width runs (with_additions [] all.terms) c.self.invariant.runs
    (Ascends-with_additions all.terms) (nonzero-with_additions all.terms)
    (omega (arith, small, terms_total-with_additions all.terms)))

pub invariant_of-self : goal.invariant_of-self
invariant_of-self c =
    let width = c.self.inside.width in
    let runs : List Run = c.self.inside.runs.items in
    let all : TableContent = record { width = c.gathered.inside.width; terms = c.gathered.inside.terms.items } in
    let small : terms_total (merged_terms runs) + terms_total all.terms ≤ 2 ^ 124 =
    rw (← c.self.view_is, ← c.gathered.view_is) at c.requires.small in
    let wide : all.width ≡ width =
    ap (λ (g : TableContent). g.width) c.gathered.view_is ∙ c.requires.width
    ∙ sym (ap (λ (t : KeptTable). t.content.width) c.self.view_is) in
    let sets : All (OfSet (IsTermSet width)) all.terms =
    subst (λ (n : ℕ). All (OfSet (IsTermSet n)) all.terms) wide c.gathered.invariant.sets in
    let new : List Run = c.append_run.new.runs.items in
    let next : List Run = settled (runs ++ with_additions [] all.terms ∷ []) in
    let done : OnOk c.append_run.result (new ≡ next) =
    subst (λ (r : Run). OnOk c.append_run.result (new ≡ settled (runs ++ r ∷ []))) c.sorted_sums.ensures
    c.append_run.ensures.settled in
    IsKept-by_result c.append_run.result width runs new next c.self.invariant
    (IsKept-with_sums width runs all.terms c.self.invariant sets small) done c.append_run.ensures.unchanged

pub returns-clause-added : goal.returns-clause-added
returns-clause-added c = grind (arith, nat_tests, sums-by_result)

pub returns-clause-settled : goal.returns-clause-settled
returns-clause-settled c =
    let width = c.self.inside.width in
    let runs : List Run = c.self.inside.runs.items in
    let all : TableContent = record { width = c.gathered.inside.width; terms = c.gathered.inside.terms.items } in
    let new : List Run = c.append_run.new.runs.items in
    let r = c.append_run.result in
    let done : OnOk r (new ≡ settled (runs ++ with_additions [] all.terms ∷ [])) =
    subst (λ (s : Run). OnOk r (new ≡ settled (runs ++ s ∷ []))) c.sorted_sums.ensures c.append_run.ensures.settled in
    subst (λ (g : TableContent). OnOk r (new ≡ settled (c.args.self.now.runs ++ with_additions [] g.terms ∷ []))) c.gathered.view_is
    (subst (λ (t : KeptTable). OnOk r (new ≡ settled (t.runs ++ with_additions [] all.terms ∷ []))) c.self.view_is done)
