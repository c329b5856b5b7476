use Rattle.bits_model.proofs.Common.{nat_tests, ◌<◌, ◌+◌, length, arith, ints, rows_of}
use Rattle.bits_model.specs.declared.output.Kind.TheVariants.{Qubo}
use Rattle.bits_model.proofs.Energies.{size-energy}
use Rattle.bits_model.proofs.EntryRows.{rows_before}
use Rattle.bits_model.proofs.RowEnergies.{weight_before, weight_of_row, energy_of_row, energy_of_all}
use Rattle.bits_model.proofs.row_energies.rows_energy.Goals as goal

pub row_energy-energy-requires : goal.row_energy-energy-requires
row_energy-energy-requires c =
    let es = c.args.couplers.now in
    let k = c.loop-index.index in
    let below : k < length (rows_of es) =
    omega (arith, c.loop-index-test.true, c.row_count-index-end.ensures) in
    let within = weight_before es (k + 1) in
    omega (arith, weight_of_row es _ k below c.row-row.ensures, within, c.requires)

pub overflow_add-energy : goal.overflow_add-energy
overflow_add-energy c =
    let y = c.args.y.now in
    let es = c.args.couplers.now in
    let row = c.row-row.result in
    let k = c.loop-index.index in
    let below : k < length (rows_of es) =
    omega (arith, c.loop-index-test.true, c.row_count-index-end.ensures) in
    let weighed = weight_of_row es row k below c.row-row.ensures in
    let within = weight_before es (k + 1) in
    let before = size-energy Qubo y (rows_before es k) in
    omega (arith, ints, weighed, within, before, size-energy Qubo y row, c.loop-index.invariant, c.row_energy-energy.ensures, c.requires)

pub loop-index-preserved : goal.loop-index-preserved
loop-index-preserved c =
    let y = c.args.y.now in
    let es = c.args.couplers.now in
    let row = c.row-row.result in
    let k = c.loop-index.index in
    let below : k < length (rows_of es) =
    omega (arith, c.loop-index-test.true, c.row_count-index-end.ensures) in
    let energy = energy_of_row y es row k below c.row-row.ensures in
    let weighed = weight_of_row es row k below c.row-row.ensures in
    let within = weight_before es (k + 1) in
    let before = size-energy Qubo y (rows_before es k) in
    omega (arith, ints, energy, weighed, within, before, size-energy Qubo y row, c.loop-index.invariant, c.row_energy-energy.ensures, c.requires)

pub returns : goal.returns
returns c = grind (arith, nat_tests, ints, energy_of_all)
