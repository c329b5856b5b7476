use Rattle.problem_form.proofs.Lemmas.{nat_tests, arith, length-append, by_result, on_ok, weighed_clauses-hard}
use Rattle.problem_form.proofs.clause_list.ClauseList.push_hard.Goals as goal

pub invariant_of-self : goal.invariant_of-self
invariant_of-self c = grind (arith, nat_tests, length-append, by_result)

pub returns-clause-pushed : goal.returns-clause-pushed
returns-clause-pushed c = grind (arith, nat_tests, on_ok, weighed_clauses-hard)
