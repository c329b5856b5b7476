use Rattle.entry_reader.proofs.Common.{nat_tests, rules, arith, w128, eq-eqb, ne_eqb, to_z-of_z, on_ok_weaker}
use Rattle.entry_reader.proofs.added.add_entry.Goals as goal

pub returns-in-Qubo-clause-total : goal.returns-in-Qubo-clause-total
returns-in-Qubo-clause-total c = grind (arith, nat_tests, to_z-of_z, on_ok_weaker)

pub returns-then-entry-clause-total : goal.returns-then-entry-clause-total
returns-then-entry-clause-total c = grind (arith, nat_tests, to_z-of_z, on_ok_weaker)

pub returns-in-Qubo-clause-added : goal.returns-in-Qubo-clause-added
returns-in-Qubo-clause-added c =
    rw c.in-Qubo.is (rw (to_z-of_z w128 c.args.entry.weight (search rules)) at c.add_pair.ensures.added)

pub returns-then-entry-clause-added : goal.returns-then-entry-clause-added
returns-then-entry-clause-added c =
    rw (c.in-Ising.is, eq-eqb c.args.entry.first c.args.entry.second c.if-entry.true)
    (rw (to_z-of_z w128 c.args.entry.weight (search rules)) at c.add_field.ensures.added)

pub returns-else-entry-clause-added : goal.returns-else-entry-clause-added
returns-else-entry-clause-added c =
    rw (c.in-Ising.is, ne_eqb c.args.entry.first c.args.entry.second c.if-entry.false)
    (rw (to_z-of_z w128 c.args.entry.weight (search rules)) at c.add_coupling.ensures.added)
