use Rattle.quadratization.proofs.Common.{◌≡◌, ◌++◌, node_couplers}
use Rattle.quadratization.proofs.heads.push_nodes.Given as goal

-- the couplers with the new nodes so far
abbrev pub invariant-loop-k : goal.invariant-loop-k
invariant-loop-k l =
    l.couplers
    ≡ l.initial.couplers ++ node_couplers l.fn.literal l.fn.degree l.fn.coefficient l.fn.first_node l.k
