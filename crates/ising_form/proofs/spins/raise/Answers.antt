use Rattle.ising_form.proofs.Common.{◌≡◌, pos, ◌+ℤ◌, to_z, of_z, get_or, slice_set, ap, arith, w128, ints, weights_within}
use Rattle.ising_form.proofs.spins.raise.Goals as goal

pub overflow_add-fields : goal.overflow_add-fields
overflow_add-fields c =
    omega (arith, ints, weights_within c.args.fields.now c.args.node (pos 0) c.requires.within, c.requires.small)

pub returns : goal.returns
returns c =
    let h = get_or c.args.fields.now c.args.node (pos 0) in
    let within = weights_within c.args.fields.now c.args.node (pos 0) c.requires.within in
    let sum : to_z w128 (of_z w128 (to_z w128 (of_z w128 h) +ℤ to_z w128 (of_z w128 c.args.weight))) ≡ h +ℤ c.args.weight =
    omega (arith, ints, within, c.requires.small) in
    ap (slice_set c.args.fields.now c.args.node) sum
