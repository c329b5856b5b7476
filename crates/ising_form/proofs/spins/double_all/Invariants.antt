use Rattle.ising_form.proofs.Common.{◌≡◌, ◌++◌, [], take, drop, spins_constant, spins_fields}
use Rattle.ising_form.proofs.spins.double_all.Given as goal

-- the constant and the fields of the nodes so far, and the weights of the others
abbrev pub invariant-loop-at : goal.invariant-loop-at
invariant-loop-at l = record {
  constant : l.sum ≡ spins_constant l.constant (take l.at l.initial.weights) [];
  fields : l.weights ≡ spins_fields (take l.at l.initial.weights) [] ++ drop l.at l.initial.weights;
}
