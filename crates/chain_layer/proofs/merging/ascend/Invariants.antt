use Rattle.chain_layer.proofs.Common.{◌≤◌, AllAdjacentBelow, place_number}
use Rattle.chain_layer.proofs.merging.ascend.Given as goal

-- the numbers so far ascend
abbrev pub invariant-loop-k : goal.invariant-loop-k
invariant-loop-k l = AllAdjacentBelow (λ p q. place_number p ≤ place_number q) l.places l.k
