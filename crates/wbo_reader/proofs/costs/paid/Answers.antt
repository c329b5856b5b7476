use Rattle.wbo_reader.proofs.Lemmas.{rules, ◌≡◌, Some, arith, slice_get, paid_for, soft_within, paid_next, paid-le}
use Rattle.wbo_reader.proofs.costs.paid.Goals as goal

pub paid_for-requires : goal.paid_for-requires
paid_for-requires c =
    let at : slice_get c.args.soft.now c.loop-i.i ≡ Some c.at.result = search rules in
    omega (arith, soft_within)

pub overflow_add-sum : goal.overflow_add-sum
overflow_add-sum c =
    let at : slice_get c.args.soft.now c.loop-i.i ≡ Some c.at.result = search rules in
    let one : c.from-sum.result ≡ paid_for c.args.x.now c.at.result = search rules in
    omega (arith, one, paid_next, paid-le)

pub loop-i-preserved : goal.loop-i-preserved
loop-i-preserved c =
    let x = c.args.x.now in
    let at : slice_get c.args.soft.now c.loop-i.i ≡ Some c.at.result = search rules in
    let one : c.from-sum.result ≡ paid_for x c.at.result = search rules in
    omega (arith, one, paid_next x c.args.soft.now c.loop-i.i c.at.result at, c.loop-i.invariant)
