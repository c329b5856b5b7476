use Rattle.problem_form.proofs.Lemmas.{nat_tests, marked-moved, marked-passed}
use Rattle.std.proofs.Common.{arith, length-set}
use Rattle.problem_form.proofs.constraint_list.keep_rows.Goals as goal
use Rattle.problem_form.proofs.constraint_list.keep_rows.Goals.{then-kept-i, else-kept-i}

pub loop-i-preserved : goal.loop-i-preserved
loop-i-preserved c =
    grind (arith, nat_tests, then-kept-i, length-set, marked-moved, else-kept-i, marked-passed)
