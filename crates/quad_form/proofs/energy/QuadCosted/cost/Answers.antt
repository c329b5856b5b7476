use Rattle.quad_form.proofs.Common.{◌≡◌, ◌+ℤ◌, ℤ, List, to_z, of_z, ap, ◌∙◌, arith, w128, ints, total_by, total_by-append, bits_energy, size-energy, weights-append, QuadContent, node_entries, quad_value, Whole, Qubo}
use Rattle.quad_form.proofs.energy.QuadCosted.cost.Goals as goal

pub overflow_add-result : goal.overflow_add-result
overflow_add-result c =
    let y = c.args.y.now in
    let nodes = node_entries 0 c.self.inside.diagonal in
    let couplers = c.self.inside.couplers in
    let first = c.diagonal_energy-nodes.ensures ∙ ap (λ (ws : List ℤ). total_by (bits_energy y) (node_entries 0 ws)) c.as_slice.ensures in
    let second = c.couplers_energy-couplers.ensures in
    omega (arith, ints, first, second, size-energy Qubo y nodes, size-energy Qubo y couplers, weights-append nodes couplers, c.self.invariant.small)

pub overflow_add-result-2 : goal.overflow_add-result-2
overflow_add-result-2 c =
    let y = c.args.y.now in
    let nodes = node_entries 0 c.self.inside.diagonal in
    let couplers = c.self.inside.couplers in
    let first = c.diagonal_energy-nodes.ensures ∙ ap (λ (ws : List ℤ). total_by (bits_energy y) (node_entries 0 ws)) c.as_slice.ensures in
    let second = c.couplers_energy-couplers.ensures in
    omega (arith, ints, first, second, size-energy Qubo y nodes, size-energy Qubo y couplers, weights-append nodes couplers, c.self.invariant.small)

pub returns : goal.returns
returns c =
    let y = c.args.y.now in
    let q : QuadContent = record { constant = c.self.inside.constant; diagonal = c.self.inside.diagonal; couplers = c.self.inside.couplers } in
    let nodes = node_entries 0 q.diagonal in
    let first = c.diagonal_energy-nodes.ensures ∙ ap (λ (ws : List ℤ). total_by (bits_energy y) (node_entries 0 ws)) c.as_slice.ensures in
    let second = c.couplers_energy-couplers.ensures in
    let whole = total_by-append (bits_energy y) nodes q.couplers in
    let sum : to_z w128 (of_z w128 (to_z w128 (of_z w128 q.constant) +ℤ to_z w128 (of_z w128 (to_z w128 (of_z w128 c.diagonal_energy-nodes.result) +ℤ to_z w128 (of_z w128 c.couplers_energy-couplers.result))))) ≡ quad_value q y =
    omega (arith, ints, first, second, whole, size-energy Qubo y nodes, size-energy Qubo y q.couplers, weights-append nodes q.couplers, c.self.invariant.small) in
    ap Whole (sum ∙ ap (λ (f : QuadContent). quad_value f y) c.self.view_is)
