use Rattle.chain_layer.proofs.Common.{[], arith, majority}
use Rattle.std.proofs.lemmas.List.{map_more}
use Rattle.chain_layer.proofs.decoding.decoded.Goals as goal

pub loop-i-preserved : goal.loop-i-preserved
loop-i-preserved c =
    let below = c.len-i-end.ensures in
    let more = map_more (majority c.args.y.now) c.args.chains.now c.loop-i.i [] (omega (arith, c.loop-i-test.true, below)) in
    cc (c.in_ok-push.ensures.items, c.loop-i.invariant, c.majority.ensures, c.list.ensures.listed, more)
