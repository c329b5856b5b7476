use Rattle.chain_map.proofs.Common.{ap, ◌∙◌, arith, take_all, take_more, Spot, path_of}
use Rattle.chain_map.proofs.CliqueChains.{path_len}
use Rattle.chain_map.proofs.spot.fill_chain.Goals as goal

pub loop-steps-preserved : goal.loop-steps-preserved
loop-steps-preserved c =
    let spot = c.spot_of-spot.result in
    let path = path_of c.args.graph.now spot.cell spot.at in
    let len = path_len c.args.graph.now spot.cell spot.at c.spot_of-spot.ensures.cell in
    let more = take_more path c.loop-steps.steps 0
    (omega (arith, len, c.loop-steps-test.true, c.diagonal_of-steps-end.ensures)) in
    cc (c.in_ok-push.ensures.items, c.loop-steps.invariant, c.path_qubit.ensures)

pub returns : goal.returns
returns c =
    let graph = c.args.graph.now in
    let spot = c.spot_of-spot.result in
    let len = path_len graph spot.cell spot.at c.spot_of-spot.ensures.cell in
    c.loop-steps.invariant ∙ take_all c.loop-steps.steps (path_of graph spot.cell spot.at)
    (omega (arith, len, c.loop-steps-test.false, c.diagonal_of-steps-end.ensures))
    ∙ ap (λ (s : Spot). path_of graph s.cell s.at) c.spot_of-spot.ensures.spot
