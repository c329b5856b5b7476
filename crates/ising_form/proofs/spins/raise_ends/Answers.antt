use Rattle.ising_form.proofs.Common.{nat_tests, arith, to_z-of_z}
use Rattle.ising_form.proofs.FieldSums.{node_total, total-raised}
use Rattle.ising_form.proofs.spins.raise_ends.Goals as goal

pub raise-requires-2-clause-small : goal.raise-requires-2-clause-small
raise-requires-2-clause-small c = grind (arith, nat_tests, to_z-of_z, node_total, total-raised)
