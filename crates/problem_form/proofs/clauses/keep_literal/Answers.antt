use Rattle.problem_form.proofs.Lemmas.{arith, nat_tests, kept-alone}
use Rattle.problem_form.proofs.clauses.keep_literal.Goals as goal

pub returns-clause-kept : goal.returns-clause-kept
returns-clause-kept c = grind (arith, nat_tests, kept-alone)
