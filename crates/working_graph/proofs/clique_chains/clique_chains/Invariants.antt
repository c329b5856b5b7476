use Rattle.working_graph.proofs.Common.{◌≡◌, clique_of}
use Rattle.working_graph.proofs.clique_chains.clique_chains.Given as goal

-- the chains of the nodes so far
abbrev pub invariant-loop-node : goal.invariant-loop-node
invariant-loop-node l = l.chains ≡ clique_of l.graph l.node
