use Rattle.model_pipeline.proofs.Common.{arith, nat_tests, subst, sym, length, ◌≤◌, IfErr-weaker, if_fault, IsIsing}
use Rattle.model_pipeline.proofs.Common.{[], Fabric, IfOk, IsChecked, IsValidOn}
use Rattle.listed_graph.specs.laws.ListedJoins.{listed-few}
use Rattle.listed_graph.specs.Parts.{joined_in, qubits_of}
use Rattle.model_pipeline.proofs.GraphModels.{listed_is, no_nodes_valid}
use Rattle.model_pipeline.proofs.embedding.clique_on_given.Goals as goal

pub returns-clause-checked : goal.returns-clause-checked
returns-clause-checked c =
    let listed = c.given.inside.listed in
    let all = listed_is listed.parts.items (listed-few _ _ _ listed.indexed) in
    let f = c.args.form in
    let r = c.check.result in
    let joined = joined_in listed.parts.items in
    let told = subst (λ map. IfOk r (IsChecked joined (qubits_of listed.parts.items) f map)) c.new-no_chains.ensures c.check.ensures.checked in
    rw (← c.given.view_is) (subst (λ (g : Fabric). IfOk r (IsChecked g.joined g.qubits f [])) all told)

pub returns-clause-refused : goal.returns-clause-refused
returns-clause-refused c =
    let parts = c.given.inside.listed.parts.items in
    let all = listed_is parts (listed-few _ _ _ c.given.inside.listed.indexed) in
    let ising : IsIsing c.args.form = subst IsIsing c.form.view_is c.form.invariant in
    let none : length c.args.form.fields ≤ 0 = grind (arith, nat_tests, c.if-nodes-gt0.false, c.as_slice-nodes.ensures, c.form.view_is) in
    IfErr-weaker c.check.result _ _
    (λ e h. if_fault e _ _
    (λ f invalid. absurd (invalid (rw c.new-no_chains.ensures (subst (λ (g : Fabric). IsValidOn g c.args.form []) (sym all) (no_nodes_valid parts c.args.form ising none))))) h)
    c.check.ensures.invalid
