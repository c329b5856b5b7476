use Rattle.std.proofs.Common.{◌≡◌, take}
use Rattle.bits_model.proofs.weights.widened.Given as goal

-- the weights so far
abbrev pub invariant-loop-weight : goal.invariant-loop-weight
invariant-loop-weight l = l.wide.items ≡ take l.weight-index l.narrow
