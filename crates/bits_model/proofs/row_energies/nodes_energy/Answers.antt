use Rattle.bits_model.proofs.Common.{to_z, arith, w128, ints}
use Rattle.bits_model.specs.declared.output.Kind.TheVariants.{Qubo}
use Rattle.bits_model.proofs.Energies.{energy_step, weight_left, size-entry_energy, size_left}
use Rattle.bits_model.proofs.row_energies.nodes_energy.Goals as goal

pub overflow_add-energy : goal.overflow_add-energy
overflow_add-energy c =
    let so_far = to_z w128 c.loop-entry.energy-bits in
    let left = c.in-Some.ensures.steps in
    let small = size_left Qubo c.args.y.now _ _ c.in-Some.entry so_far _ left c.loop-entry.invariant.small in
    let added = size-entry_energy Qubo c.args.y.now c.in-Some.entry in
    omega (arith, ints, c.bits_energy-energy.ensures, small, added, weight_left _ _ c.in-Some.entry left, c.loop-entry.invariant.small)

pub loop-entry-preserved : goal.loop-entry-preserved
loop-entry-preserved c =
    let step =
    energy_step Qubo c.args.y.now _ _ c.in-Some.entry (to_z w128 c.loop-entry.energy-bits) c.bits_energy-energy.result _
    c.in-Some.ensures.steps c.bits_energy-energy.ensures c.loop-entry.invariant.whole c.loop-entry.invariant.small in
    record { whole = step.0; small = step.1 }
