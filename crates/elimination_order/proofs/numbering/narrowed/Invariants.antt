use Rattle.std.proofs.Common.{◌≡◌, take}
use Rattle.elimination_order.proofs.numbering.narrowed.Given as goal

-- the nodes so far
abbrev pub invariant-loop-k : goal.invariant-loop-k
invariant-loop-k l = l.narrow.items ≡ take l.k l.order
