use Rattle.bits_model.proofs.Common.{arith, nat_tests}
use Rattle.bits_model.proofs.EntryRows.{row_count_is}
use Rattle.bits_model.proofs.couplers.CouplerList.row_count.Goals as goal

pub returns : goal.returns
returns c = grind (arith, nat_tests, row_count_is)
