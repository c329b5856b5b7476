use Rattle.ising_form.proofs.Common.{◌≡◌, take, drop, spins_constant, spins_fields}
use Rattle.ising_form.proofs.CouplerSteps.{taken}
use Rattle.ising_form.proofs.spins.spins_of.Given as goal

-- the constant and the fields of all nodes and the couplers so far
abbrev pub invariant-loop-coupler : goal.invariant-loop-coupler
invariant-loop-coupler l = record {
  here : l.coupler-iterator ≡ drop (taken l.couplers l.coupler-iterator) l.couplers;
  constant : l.spins.constant
      ≡ spins_constant l.constant l.fn.nodes.items (take (taken l.couplers l.coupler-iterator) l.couplers);
  fields : l.spins.fields.items
      ≡ spins_fields l.fn.nodes.items (take (taken l.couplers l.coupler-iterator) l.couplers);
}
