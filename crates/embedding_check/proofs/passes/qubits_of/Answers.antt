use Rattle.embedding_check.proofs.Common.{[], ◌∙◌, arith, take_more, take_all}
use Rattle.embedding_check.proofs.passes.qubits_of.Goals as goal

pub narrow-requires : goal.narrow-requires
narrow-requires c = rw c.chain.ensures (c.requires c.loop-node.node (omega arith))

pub loop-node-preserved : goal.loop-node-preserved
loop-node-preserved c =
    let more = take_more c.args.map.now c.loop-node.node [] (omega arith) in
    cc (c.in_ok-push.ensures.pushed, c.loop-node.invariant, c.deref.ensures.value, c.in_ok-narrow.ensures, c.chain.ensures, more)

pub returns-clause-same : goal.returns-clause-same
returns-clause-same c =
    c.loop-node.invariant ∙ take_all c.loop-node.node c.args.map.now (omega arith)
