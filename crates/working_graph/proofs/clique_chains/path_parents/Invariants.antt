use Rattle.working_graph.proofs.Common.{◌≡◌, map, take, but_last}
use Rattle.working_graph.proofs.clique_chains.path_parents.Given as goal

-- the parents on the chains so far
abbrev pub invariant-loop-k : goal.invariant-loop-k
invariant-loop-k l = l.parents ≡ map but_last (take l.k l.chains)
