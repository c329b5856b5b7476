use Rattle.cut_chains.proofs.Common.{◌≡◌, ◌++◌, length, reverse}
use Rattle.cut_chains.proofs.orders.list_path.Given as goal

-- what is listed, and what is left of the path
abbrev pub invariant-loop-qubit : goal.invariant-loop-qubit
invariant-loop-qubit l =
    l.order.items ++ reverse l.path.items ≡ l.fn.order.items ++ reverse l.fn.path.items

-- how much of the path is left
abbrev pub decreases-loop-qubit : goal.decreases-loop-qubit
decreases-loop-qubit l = length l.path.items
