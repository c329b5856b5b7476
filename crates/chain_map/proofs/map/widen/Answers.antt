use Rattle.std.proofs.Common.{arith}
use Rattle.std.proofs.lemmas.List.{take_more}
use Rattle.chain_map.proofs.map.widen.Goals as goal

pub loop-number-preserved : goal.loop-number-preserved
loop-number-preserved c =
    let more = take_more c.args.numbers.now c.loop-number.number-index 0 (omega arith) in
    cc (c.in_ok-push.ensures.items, c.loop-number.invariant, c.from.ensures, more)
