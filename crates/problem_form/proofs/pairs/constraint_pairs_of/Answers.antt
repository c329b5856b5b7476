use Rattle.problem_form.proofs.Lemmas.{nat_tests, arith, squared_alone, squared_spread}
use Rattle.problem_form.proofs.pairs.constraint_pairs_of.Goals as goal

pub returns-then-degree-le1 : goal.returns-then-degree-le1
returns-then-degree-le1 c = grind (arith, nat_tests, squared_alone)

pub returns-else-degree-le1 : goal.returns-else-degree-le1
returns-else-degree-le1 c = grind (arith, nat_tests, squared_spread)
