use Rattle.quadratization.proofs.Common.{nat_tests, ◌≡◌, ◌∙◌, [], map, arith, subst, sym, ap, with_additions, IsTable, sums_of, summed_is, all_long, excess-size, additions_at, product_term, terms_of, table_of, IsTable-table_of}
use Rattle.quadratization.proofs.HeldRuns.{count-size, excess-long, long-sums, run-of}
use Rattle.quadratization.proofs.long_run.long_run.Goals.{In_ok-terms}
use Rattle.quadratization.proofs.long_run.long_run.Goals as goal

-- the terms are the sums of the additions
summed : (c : In_ok-terms)
    → c.in_ok-terms.terms ≡ with_additions [] (map product_term c.args.additions)
summed c =
    c.in_ok-terms.ensures.terms
    ∙ ap (λ ks. sums_of (additions_at c.args.additions ks)) c.deref.ensures.value
    ∙ summed_is _ _ c.in_ok-order.ensures.permuted c.in_ok-order.ensures.ordered

pub summed_terms-requires-clause-narrow : goal.summed_terms-requires-clause-narrow
summed_terms-requires-clause-narrow c = omega (arith, c.requires.size)

pub summed_terms-requires-clause-few : goal.summed_terms-requires-clause-few
summed_terms-requires-clause-few c = grind (arith, nat_tests, summed_is, excess-size)

pub run_of_long-requires-clause-table : goal.run_of_long-requires-clause-table
run_of_long-requires-clause-table c =
    let made = summed (goal.at.run_of_long-requires-clause-table c).In_ok-terms in
    subst IsTable (λ k. record { width = c.args.width; terms = sym made k })
    (IsTable-table_of (terms_of c.args.width c.args.additions) c.requires.additions)

pub run_of_long-requires-clause-long : goal.run_of_long-requires-clause-long
run_of_long-requires-clause-long c =
    let t = table_of (terms_of c.args.width c.args.additions) in
    let made = summed (goal.at.run_of_long-requires-clause-long c).In_ok-terms in
    all_long t.terms c.in_ok-terms.terms (made ∙ sym (long-sums c.args.additions c.requires.long))

pub run_of_long-requires-clause-few : goal.run_of_long-requires-clause-few
run_of_long-requires-clause-few c = grind (arith, nat_tests, summed, count-size)

pub run_of_long-requires-clause-narrow : goal.run_of_long-requires-clause-narrow
run_of_long-requires-clause-narrow c = grind (arith, nat_tests, summed, excess-size)

pub returns : goal.returns
returns c t kept wide same = grind (arith, nat_tests, summed, excess-long, run-of)
