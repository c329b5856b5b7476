use Rattle.quadratization.proofs.Common.{nat_tests, arith, get_or_past, get_or_from_slice_get}
use Rattle.quadratization.proofs.SortedAdditions.{none_first}
use Rattle.quadratization.proofs.additions.compared_at.Goals as goal

pub returns-in-true-false : goal.returns-in-true-false
returns-in-true-false c = grind (arith, nat_tests, get_or_from_slice_get, get_or_past)

pub returns-in-false-true : goal.returns-in-false-true
returns-in-false-true c = grind (arith, nat_tests, get_or_from_slice_get, get_or_past, none_first)
