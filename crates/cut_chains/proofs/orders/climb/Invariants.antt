use Rattle.cut_chains.proofs.Common.{get_or, not, count_by}
use Rattle.cut_chains.proofs.Paths.{IsWalking}
use Rattle.cut_chains.proofs.orders.climb.Given as goal

-- the walk so far
abbrev pub invariant-loop-seen : goal.invariant-loop-seen
invariant-loop-seen l = IsWalking (λ q. get_or l.up q 0) l.fn.seen l.seen l.from l.q l.path.items

-- fewer and fewer qubits are not marked
abbrev pub decreases-loop-seen : goal.decreases-loop-seen
decreases-loop-seen l = count_by not l.seen
