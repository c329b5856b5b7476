use Rattle.chain_map.proofs.Common.{arith}
use Rattle.chain_map.proofs.CliqueChains.{clique_valid}
use Rattle.chain_map.proofs.clique.clique_map.Goals as goal

pub returns-clause-valid : goal.returns-clause-valid
returns-clause-valid c =
    rw c.in_ok-clique_chains.ensures
    (clique_valid c.args.graph.now c.args.nodes
    (omega (arith, c.if-nodes-places.false, c.clique_places-places.ensures)))
