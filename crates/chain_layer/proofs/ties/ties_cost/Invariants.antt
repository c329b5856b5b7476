use Rattle.chain_layer.proofs.Common.{◌≡◌, sum_by, range_with_len, node_cost}
use Rattle.chain_layer.proofs.ties.ties_cost.Given as goal

-- the cost of the chains so far
abbrev pub invariant-loop-i : goal.invariant-loop-i
invariant-loop-i l = l.cost ≡ sum_by (node_cost l.source) (range_with_len 0 l.i)
