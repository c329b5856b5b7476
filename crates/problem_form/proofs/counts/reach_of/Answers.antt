use Rattle.problem_form.proofs.Lemmas.{nat_tests, arith, ints, slack_range-le}
use Rattle.problem_form.proofs.counts.reach_of.Goals as goal

pub overflow_add-result-2 : goal.overflow_add-result-2
overflow_add-result-2 c = grind (arith, nat_tests, ints, slack_range-le)
