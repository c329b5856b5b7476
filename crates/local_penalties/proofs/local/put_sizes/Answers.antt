use Rattle.local_penalties.proofs.Common.{◌≡◌, pos, get_or, unsigned_abs, arith, rules, map_more}
use Rattle.local_penalties.proofs.local.put_sizes.Goals as goal

pub loop-coefficient-preserved : goal.loop-coefficient-preserved
loop-coefficient-preserved c =
    let i = c.loop-coefficient.coefficient-index in
    let size : c.unsigned_abs.result ≡ unsigned_abs (get_or c.args.coefficients.now i (pos 0)) = search rules in
    let more = map_more (λ z. unsigned_abs z) c.args.coefficients.now i (pos 0) (omega arith) in
    cc (c.in_ok-push.ensures.items, c.loop-coefficient.invariant, size, more)
