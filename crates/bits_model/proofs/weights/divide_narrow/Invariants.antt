use Rattle.bits_model.proofs.Common.{◌≡◌, int_div, changed_to}
use Rattle.bits_model.proofs.weights.divide_narrow.Given as goal

-- the weights so far are divided, and the others as before
abbrev pub invariant-loop-weight : goal.invariant-loop-weight
invariant-loop-weight l =
    l.weight-items ≡ changed_to (λ w. int_div w l.unit) l.weight-index l.fn.weights.items
