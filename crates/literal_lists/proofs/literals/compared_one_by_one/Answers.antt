use Rattle.literal_lists.proofs.Common.{arith, nat_tests}
use Rattle.literal_lists.proofs.literals.compared_one_by_one.Goals as goal

pub loop-literal-preserved : goal.loop-literal-preserved
loop-literal-preserved c = grind (arith, nat_tests)
