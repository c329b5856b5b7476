use Rattle.problem_form.proofs.Lemmas.{nat_tests, arith, length-weighed_clauses, weighed_clauses-at}
use Rattle.problem_form.proofs.clause_list.ClauseList.at.Goals as goal

pub at-requires : goal.at-requires
at-requires c = grind (arith, nat_tests, length-weighed_clauses)

pub returns : goal.returns
returns c = grind (arith, nat_tests, weighed_clauses-at)
