use Rattle.problem_form.proofs.Common.{arith, nat_tests, ints, append-nil}
use Rattle.problem_form.proofs.KeptPairs.{weighed-two, weighed-opposite}
use Rattle.problem_form.proofs.products.keep_weighed_pair.Goals as goal

pub returns-in-Some-clause-kept : goal.returns-in-Some-clause-kept
returns-in-Some-clause-kept c = grind (arith, nat_tests, ints, weighed-two)

pub returns-in-None-clause-kept : goal.returns-in-None-clause-kept
returns-in-None-clause-kept c = grind (arith, nat_tests, append-nil, weighed-opposite)
