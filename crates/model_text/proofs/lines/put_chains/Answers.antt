use Rattle.std.proofs.Common.{arith}
use Rattle.model_text.proofs.Puts.{put_none, put_more, put_fault}
use Rattle.model_text.proofs.RowPieces.{chains_left}
use Rattle.model_text.proofs.lines.put_chains.Goals as goal

pub returns-in_err-put_chain : goal.returns-in_err-put_chain
returns-in_err-put_chain g c =
    let cut = chains_left c.args.chains.now c.loop-node.node c.list.result.now (omega (arith, c.loop-node-test.true, c.len-node-end.ensures)) c.list.ensures.listed in
    put_fault _ _ c.from_residual.ensures.1 cut c.loop-node.invariant c.in_err-put_chain.ensures

pub loop-node-preserved : goal.loop-node-preserved
loop-node-preserved g c =
    let cut = chains_left c.args.chains.now c.loop-node.node c.list.result.now (omega (arith, c.loop-node-test.true, c.len-node-end.ensures)) c.list.ensures.listed in
    put_more cut c.loop-node.invariant c.in_ok-put_chain.ensures

pub loop-node-init : goal.loop-node-init
loop-node-init g c = put_none
