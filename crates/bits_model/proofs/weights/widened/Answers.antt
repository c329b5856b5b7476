use Rattle.bits_model.proofs.Common.{◌≡◌, pos, get_or, to_z, of_z, w128, arith, rules, take_more, take_all}
use Rattle.bits_model.proofs.weights.widened.Goals as goal

pub loop-weight-preserved : goal.loop-weight-preserved
loop-weight-preserved c =
    let i = c.loop-weight.weight-index in
    let value : to_z w128 (of_z w128 c.from.result) ≡ get_or c.args.narrow.now i (pos 0) = search rules in
    cc (c.in_ok-push.ensures.items, c.loop-weight.invariant, value, take_more c.args.narrow.now i (pos 0) (omega arith))

pub returns : goal.returns
returns c =
    let last : to_z w128 (of_z w128 c.args.last) ≡ c.args.last = search rules in
    cc (c.in_ok-push-2.ensures.items, c.loop-weight.invariant, last, take_all c.loop-weight.weight-index c.args.narrow.now (omega arith))
