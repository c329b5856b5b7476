use Rattle.chain_map.proofs.Common.{◌≡◌, clique_of}
use Rattle.chain_map.proofs.clique.clique_chains.Given as goal

-- the chains of the nodes so far
abbrev pub invariant-loop-node : goal.invariant-loop-node
invariant-loop-node l = l.map ≡ clique_of l.graph l.node
