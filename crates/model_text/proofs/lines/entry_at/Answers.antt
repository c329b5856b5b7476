use Rattle.model_text.proofs.Common.{arith, nat_tests, to_z-of_z}
use Rattle.model_text.proofs.EntryLists.{entry_is}
use Rattle.model_text.proofs.lines.entry_at.Goals as goal

pub returns : goal.returns
returns c = grind (arith, nat_tests, to_z-of_z, entry_is)
