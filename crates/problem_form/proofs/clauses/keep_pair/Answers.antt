use Rattle.problem_form.proofs.Lemmas.{arith, nat_tests, append-nil, kept-two, kept-opposite}
use Rattle.problem_form.proofs.clauses.keep_pair.Goals as goal

pub returns-in-Some-clause-kept : goal.returns-in-Some-clause-kept
returns-in-Some-clause-kept c = grind (arith, nat_tests, kept-two)

pub returns-in-None-clause-kept : goal.returns-in-None-clause-kept
returns-in-None-clause-kept c = grind (arith, nat_tests, append-nil, kept-opposite)
