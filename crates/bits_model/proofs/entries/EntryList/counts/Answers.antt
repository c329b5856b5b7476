use Rattle.bits_model.proofs.Common.{arith, nat_tests}
use Rattle.bits_model.proofs.EntryCounts.{nodes_counted, couplers_counted}
use Rattle.bits_model.proofs.entries.EntryList.counts.Goals as goal

pub returns-clause-nodes : goal.returns-clause-nodes
returns-clause-nodes c = grind (arith, nat_tests, nodes_counted)

pub returns-clause-couplers : goal.returns-clause-couplers
returns-clause-couplers c = grind (arith, nat_tests, couplers_counted)
