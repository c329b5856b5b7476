use Rattle.ising_form.proofs.Common.{◌≡◌, ◌+ℤ◌, ℤ, List, to_z, of_z, ap, ◌∙◌, arith, w128, ints, total_by, total_by-append, spins_energy, size-energy, weights-append, node_entries, IsingContent, ising_value}
use Rattle.base.specs.declared.costs.Cost.TheVariants.{Whole}
use Rattle.bits_model.specs.declared.output.Kind.TheVariants.{Ising}
use Rattle.ising_form.proofs.energy.IsingCosted.cost.Goals as goal

pub overflow_add-result : goal.overflow_add-result
overflow_add-result c =
    let nodes = rw c.as_slice.ensures at c.fields_energy-nodes.ensures in
    let fields_size = size-energy Ising c.args.y.now (node_entries 0 c.self.inside.fields) in
    let couplings_size = size-energy Ising c.args.y.now c.self.inside.couplings in
    omega (arith, ints, c.couplers_energy-couplings.ensures, weights-append, c.self.invariant.small)

pub overflow_add-result-2 : goal.overflow_add-result-2
overflow_add-result-2 c =
    let nodes = rw c.as_slice.ensures at c.fields_energy-nodes.ensures in
    let fields_size = size-energy Ising c.args.y.now (node_entries 0 c.self.inside.fields) in
    let couplings_size = size-energy Ising c.args.y.now c.self.inside.couplings in
    omega (arith, ints, c.couplers_energy-couplings.ensures, weights-append, c.self.invariant.small)

pub returns : goal.returns
returns c =
    let y = c.args.y.now in
    let q : IsingContent = record { constant = c.self.inside.constant; fields = c.self.inside.fields; couplings = c.self.inside.couplings } in
    let nodes = node_entries 0 q.fields in
    let first = c.fields_energy-nodes.ensures ∙ ap (λ (ws : List ℤ). total_by (spins_energy y) (node_entries 0 ws)) c.as_slice.ensures in
    let second = c.couplers_energy-couplings.ensures in
    let whole = total_by-append (spins_energy y) nodes q.couplings in
    let sum : to_z w128 (of_z w128 (to_z w128 (of_z w128 q.constant) +ℤ to_z w128 (of_z w128 (to_z w128 (of_z w128 c.fields_energy-nodes.result) +ℤ to_z w128 (of_z w128 c.couplers_energy-couplings.result))))) ≡ ising_value q y =
    omega (arith, ints, first, second, whole, size-energy Ising y nodes, size-energy Ising y q.couplings, weights-append nodes q.couplings, c.self.invariant.small) in
    ap Whole (sum ∙ ap (λ (f : IsingContent). ising_value f y) c.self.view_is)
