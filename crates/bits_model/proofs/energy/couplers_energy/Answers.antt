use Rattle.bits_model.proofs.Common.{to_z, arith, w128, ints}
use Rattle.bits_model.proofs.Energies.{energy_step, weight_left, size-entry_energy, size_left}
use Rattle.bits_model.proofs.energy.couplers_energy.Goals as goal

pub entry_energy-energy-requires : goal.entry_energy-energy-requires
entry_energy-energy-requires c =
    omega (arith, c.loop-entry.invariant.small, weight_left _ _ c.in-Some.entry c.in-Some.ensures.steps)

pub overflow_add-energy : goal.overflow_add-energy
overflow_add-energy c =
    let small =
    size_left c.args.kind c.args.y.now _ _ c.in-Some.entry (to_z w128 c.loop-entry.energy-bits) _
    c.in-Some.ensures.steps c.loop-entry.invariant.small in
    let added = size-entry_energy c.args.kind c.args.y.now c.in-Some.entry in
    let within = weight_left _ _ c.in-Some.entry c.in-Some.ensures.steps in
    omega (arith, ints, c.entry_energy-energy.ensures, small, added, within, c.loop-entry.invariant.small)

pub loop-entry-preserved : goal.loop-entry-preserved
loop-entry-preserved c =
    let step =
    energy_step c.args.kind c.args.y.now _ _ c.in-Some.entry (to_z w128 c.loop-entry.energy-bits) c.entry_energy-energy.result _
    c.in-Some.ensures.steps c.entry_energy-energy.ensures c.loop-entry.invariant.whole c.loop-entry.invariant.small in
    record { whole = step.0; small = step.1 }
