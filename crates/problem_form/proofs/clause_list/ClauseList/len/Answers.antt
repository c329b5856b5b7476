use Rattle.problem_form.proofs.Lemmas.{arith, nat_tests, length-weighed_clauses}
use Rattle.problem_form.proofs.clause_list.ClauseList.len.Goals as goal

pub returns : goal.returns
returns c = grind (arith, nat_tests, length-weighed_clauses)
