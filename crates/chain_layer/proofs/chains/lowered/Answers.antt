use Rattle.chain_layer.proofs.Common.{◌≡◌, pos, ◌-ℤ◌, to_z, of_z, arith, w128, ints, offset}
use Rattle.chain_layer.proofs.Sizes.{ties_cost-le}
use Rattle.chain_layer.proofs.chains.lowered.Goals as goal

pub ties_cost-cost-requires-clause-small : goal.ties_cost-cost-requires-clause-small
ties_cost-cost-requires-clause-small c =
    omega (arith, ties_cost-le c.args.source.now c.in_ok-strengths.ensures.kept)

pub overflow_cast-result : goal.overflow_cast-result
overflow_cast-result c =
    omega (arith, ints, ties_cost-le c.args.source.now c.in_ok-strengths.ensures.kept)

pub overflow_sub-result : goal.overflow_sub-result
overflow_sub-result c =
    omega (arith, ints, ties_cost-le c.args.source.now c.in_ok-strengths.ensures.kept)

pub returns-clause-offset : goal.returns-clause-offset
returns-clause-offset c =
    let e = c.args.source.now in
    let value : to_z w128 (of_z w128 (pos 0 -ℤ to_z w128 c.ties_cost-cost.result)) ≡ offset e =
    omega (arith, ints, ties_cost-le e c.in_ok-strengths.ensures.kept) in
    value
