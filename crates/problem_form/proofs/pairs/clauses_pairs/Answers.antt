use Rattle.problem_form.proofs.Lemmas.{arith, nat_tests, answered_left, answered_end}
use Rattle.problem_form.specs.Limits.{clause_pairs}
use Rattle.problem_form.proofs.pairs.clauses_pairs.Goals as goal

pub loop-clause-preserved : goal.loop-clause-preserved
loop-clause-preserved c =
    answered_left (clause_pairs c.args.normal) _ _ _ _ _ _ _ c.in-Some.ensures.steps
    c.clause_pairs_of.ensures c.saturating_add-total.ensures c.loop-clause.invariant

pub returns : goal.returns
returns c = grind (arith, nat_tests, answered_end)
