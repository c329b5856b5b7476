use Rattle.working_graph.proofs.Common.{arith, map-range_with_len_more, clique_chain}
use Rattle.working_graph.proofs.clique_chains.clique_chains.Goals as goal

pub loop-node-preserved : goal.loop-node-preserved
loop-node-preserved c =
    let node = c.loop-node.node in
    let more = map-range_with_len_more (clique_chain c.args.graph.now) 0 node node (omega arith) in
    cc (c.in_ok-push.ensures.pushed, c.loop-node.invariant, c.deref.ensures.value, c.in_ok-fill_chain.ensures, more)
