use Rattle.bits_model.proofs.Common.{nat_tests, ◌≡◌, ◌≤◌, ◌+◌, ◌<◌, pos, unsigned_abs, length, get_or, take, to_z, arith, w128, ints, size-plus, Entry, weight_total}
use Rattle.bits_model.proofs.Energies.{weight_within}
use Rattle.bits_model.proofs.RowEnergies.{sum_more, sum_same, weight_more}
use Rattle.bits_model.proofs.row_energies.ones_weight.Goals.{then-bit_at, else-bit_at}
use Rattle.bits_model.proofs.row_energies.ones_weight.Goals as goal

pub overflow_add-sum : goal.overflow_add-sum
overflow_add-sum c =
    let row = c.args.row.now in
    let i = c.loop-i.i in
    let d : Entry = record { first = 0; second = 0; weight = pos 0 } in
    let below : i < length row = omega (arith, c.loop-i-test.true, c.len-i-end.ensures) in
    let weight : (get_or row i d).weight ≡ c.weight-sum.result = c.weight-sum.ensures d in
    let within : weight_total (take i row) + unsigned_abs c.weight-sum.result ≤ weight_total row =
    rw weight at (weight_within row i d below) in
    omega (arith, ints, within, c.loop-i.invariant.small, c.requires)

pub loop-i-preserved : goal.loop-i-preserved
loop-i-preserved c =
    let row = c.args.row.now in
    let i = c.loop-i.i in
    let d : Entry = record { first = 0; second = 0; weight = pos 0 } in
    let below : i < length row = omega (arith, c.loop-i-test.true, c.len-i-end.ensures) in
    let so_far = to_z w128 c.loop-i.sum-bits in
    let second : (get_or row i d).second ≡ c.second.result = c.second.ensures d in
    let small = c.loop-i.invariant.small in
    let weights = weight_more row i d below in
    let within = weight_within row i d below in
    grind (arith, nat_tests, ints, then-bit_at, sum_more, size-plus, else-bit_at, sum_same)
