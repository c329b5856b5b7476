use Rattle.quad_form.proofs.Common.{take, IsCommonDivisor}
use Rattle.quad_form.proofs.units.divisor_of_nodes.Given as goal

-- it is that of the weights so far
abbrev pub invariant-loop-weight : goal.invariant-loop-weight
invariant-loop-weight l = IsCommonDivisor 0 (take l.weight-index l.weights) l.divisor
