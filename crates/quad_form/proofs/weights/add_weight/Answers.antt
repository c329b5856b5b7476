use Rattle.quad_form.proofs.Common.{◌≡◌, ◌+ℤ◌, pos, unsigned_abs, ap, arith, get_or, get_or-le-sum_by, set, to_z, of_z, w128, ints}
use Rattle.quad_form.proofs.weights.add_weight.Goals as goal

pub overflow_add-weights : goal.overflow_add-weights
overflow_add-weights c =
    let here = get_or-le-sum_by unsigned_abs c.args.weights.now c.args.node (pos 0) c.requires.within in
    omega (arith, ints, here, c.requires.small)

pub returns : goal.returns
returns c =
    let here = get_or-le-sum_by unsigned_abs c.args.weights.now c.args.node (pos 0) c.requires.within in
    let w = get_or c.args.weights.now c.args.node (pos 0) in
    let sum : to_z w128 (of_z w128 (to_z w128 (of_z w128 w) +ℤ to_z w128 (of_z w128 c.args.weight))) ≡ w +ℤ c.args.weight =
    omega (arith, ints, here, c.requires.small) in
    ap (λ z. set c.args.weights.now c.args.node z) sum
