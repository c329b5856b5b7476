use Rattle.quad_form.proofs.Common.{◌≡◌, pos, ◌+ℤ◌, to_z, of_z, get_or, ap, ◌∙◌, arith, w128, ints, if_so, bit_at, size-if_so}
use Rattle.quad_form.proofs.NodeEnergies.{energy_more, size_more, weights_within}
use Rattle.quad_form.proofs.energy.diagonal_energy.Goals as goal

pub overflow_add-energy : goal.overflow_add-energy
overflow_add-energy c =
    let i = c.loop-i.i in
    let w = get_or c.args.diagonal.now i (pos 0) in
    let bit = bit_at c.args.y.now i in
    let added : c.node_energy-energy.result ≡ if_so bit w = c.node_energy-energy.ensures ∙ ap (λ b. if_so b w) c.bit_at.ensures in
    let within = weights_within c.args.diagonal.now i (pos 0) c.loop-i-test.true in
    omega (arith, ints, added, c.loop-i.invariant.small, size-if_so bit w, within)

pub loop-i-preserved : goal.loop-i-preserved
loop-i-preserved c =
    let ws = c.args.diagonal.now in
    let i = c.loop-i.i in
    let w = get_or ws i (pos 0) in
    let y = c.args.y.now in
    let bit = bit_at y i in
    let so_far = to_z w128 c.loop-i.energy-bits in
    let added : c.node_energy-energy.result ≡ if_so bit w = c.node_energy-energy.ensures ∙ ap (λ b. if_so b w) c.bit_at.ensures in
    let within = weights_within ws i (pos 0) c.loop-i-test.true in
    let small = c.loop-i.invariant.small in
    let next : to_z w128 (of_z w128 (so_far +ℤ to_z w128 (of_z w128 c.node_energy-energy.result))) ≡ so_far +ℤ if_so bit w =
    omega (arith, ints, added, small, size-if_so bit w, within) in
    record {
      so_far = rw next (energy_more y ws i (pos 0) so_far c.loop-i-test.true c.loop-i.invariant.so_far);
      small = rw next (size_more y ws i (pos 0) so_far c.loop-i-test.true small);
    }
