use Rattle.quadratization.proofs.Common.{nat_tests, arith, to_z-of_z, get_or_default}
use Rattle.quadratization.proofs.LongPlaces.{length-first_nodes, first_nodes_at, term_from_product}
use Rattle.quadratization.proofs.long_table.LongTable.at.Goals as goal

pub index-requires : goal.index-requires
index-requires c = grind (arith, nat_tests, length-first_nodes)

pub returns-clause-term : goal.returns-clause-term
returns-clause-term c = grind (arith, nat_tests, term_from_product, to_z-of_z)

pub returns-clause-node : goal.returns-clause-node
returns-clause-node c = grind (arith, nat_tests, length-first_nodes, get_or_default, first_nodes_at)
