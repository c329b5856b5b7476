use Rattle.problem_form.proofs.Common.{rules, tests, any_from_yields_List, YieldsList-from_first, fails_hard}
use Rattle.problem_form.proofs.costs.a_hard_clause_fails.Goals as goal

pub returns : goal.returns
returns c =
    any_from_yields_List (fails_hard c.args.x.now) _ _ _ c.any.ensures.ran
    (YieldsList-from_first (λ l. l) (λ s. s) c.args.clauses.now c.iter.ensures)
    (λ x b q k. search (rules, tests))
