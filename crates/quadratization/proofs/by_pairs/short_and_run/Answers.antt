use Rattle.quadratization.proofs.Common.{nat_tests, arith, ◌*◌, ◌≤◌, ◌^◌, ◌∙◌, [], List, ap, map, subst, sym, Product, with_additions, AreAdditions, table_size, table_of, product_term, terms_of}
use Rattle.quadratization.proofs.HeldRuns as runs
use Rattle.quadratization.proofs.by_pairs.short_and_run.Goals as goal

pub long_run-requires-clause-additions : goal.long_run-requires-clause-additions
long_run-requires-clause-additions c =
    subst (λ (ps : List Product). AreAdditions (terms_of c.width-width.result ps)) (sym c.apart-short.ensures.long)
    (runs.long-additions c.requires.held.0 c.args.terms c.requires.held.1 c.requires.held.2 c.width-width.result c.width-width.ensures)

pub long_run-requires-clause-long : goal.long_run-requires-clause-long
long_run-requires-clause-long c =
    grind (arith, nat_tests, runs.long-lengths c.requires.held.0 c.args.terms c.requires.held.1 c.requires.held.2)

pub long_run-requires-clause-size : goal.long_run-requires-clause-size
long_run-requires-clause-size c =
    subst (λ (ps : List Product). table_size (table_of (terms_of c.width-width.result ps)) * 2 ^ 2 ≤ 2 ^ 31)
    (sym c.apart-short.ensures.long)
    (runs.long-size c.requires.held.0 c.args.terms c.requires.held.1 c.requires.held.2 c.width-width.result c.width-width.ensures)

pub returns-clause-run : goal.returns-clause-run
returns-clause-run c t room held =
    let h = c.args.terms in
    c.in_ok-run.ensures (table_of t) (runs.kept t h room held) (sym (c.width-width.ensures ∙ held.short.width))
    (runs.long-terms t h room held ∙ ap (λ (ps : List Product). with_additions [] (map product_term ps)) (sym c.apart-short.ensures.long))
