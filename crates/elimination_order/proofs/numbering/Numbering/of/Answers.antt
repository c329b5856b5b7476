use Rattle.elimination_order.proofs.Common.{arith, nat_tests, length-reverse}
use Rattle.elimination_order.proofs.NodesOnce.{nodes-reversed}
use Rattle.elimination_order.proofs.numbering.Numbering.of.Goals as goal

pub numbers_of-requires-clause-nodes : goal.numbers_of-requires-clause-nodes
numbers_of-requires-clause-nodes c = grind (arith, nat_tests, length-reverse, nodes-reversed)
