use Rattle.quadratization.proofs.Common.{Gain, node_shares, shares_total}
use Rattle.quadratization.proofs.shares.add_node_shares.Given as goal

-- the shares of the new nodes so far are added
abbrev pub invariant-loop-k : goal.invariant-loop-k
invariant-loop-k l =
    Gain (node_shares l.fn.degree l.fn.negated l.fn.coefficient l.fn.first_node l.k)
    (shares_total (node_shares l.fn.degree l.fn.negated l.fn.coefficient l.fn.first_node l.k))
    l.initial.weights l.weights
