use Rattle.ising_form.proofs.Common.{nat_tests, ◌≡◌, ◌≤◌, ◌^◌, ◌++◌, length, subst, sym, ap, ◌∙◌, to_z, of_z, pos, neg_ℤ, ◌-ℤ◌, arith, rules, w128, ints, to_z-of_z, Written, IsWellFormed, weight_total, figures_moved, all_upward, IsingContent, IsIsing, written_entries, written_of}
use Rattle.ising_form.proofs.WrittenModels.{written_is_well_formed, written_total, nodes_and_couplings, are_nodes}
use Rattle.ising_form.proofs.ising.Ising.output.Goals as goal

pub nodes_for-requires-clause-placed : goal.nodes_for-requires-clause-placed
nodes_for-requires-clause-placed c = grind (arith, nat_tests, ints, are_nodes)

-- what the code makes
abbrev made : (c : goal.After-moved) → Written
made c = record {
  kind = c.args.kind;
  variables = c.args.variables;
  figures = c.moved.result;
  unit = to_z w128 (of_z w128 c.args.unit);
  nodes = length c.as_slice.result.now;
  entries = c.in_ok-weights.weights ++ c.self.inside.couplings;
  chains = c.args.chains;
}

-- .. is the model of the form
made_is : (c : goal.After-moved) → made c
    ≡ written_of c.args.self c.args.variables c.args.figures c.args.unit c.args.kind c.args.chains
made_is c =
    let inside = c.self.inside in
    let f : IsingContent = record { constant = inside.constant; fields = inside.fields; couplings = inside.couplings } in
    let less : to_z w128 (of_z w128 (pos 0 -ℤ to_z w128 (of_z w128 f.constant))) ≡ neg_ℤ f.constant = omega (arith, ints, c.self.invariant.small) in
    let figures = c.moved.ensures ∙ ap (figures_moved c.args.figures) less in
    let unit = to_z-of_z w128 c.args.unit (search rules) in
    let nodes = ap length c.as_slice.ensures in
    let entries = ap (λ es. es ++ f.couplings) c.in_ok-weights.ensures ∙ nodes_and_couplings c.args.kind c.args.chains f in
    let whole : made c ≡ written_of f c.args.variables c.args.figures c.args.unit c.args.kind c.args.chains = cc in
    whole
    ∙ ap (λ (g : IsingContent). written_of g c.args.variables c.args.figures c.args.unit c.args.kind c.args.chains) c.self.view_is

-- the entries keep the form's couplings
pub invariant_of-result : goal.invariant_of-result
invariant_of-result c = all_upward (length c.self.inside.fields) c.self.inside.couplings c.self.invariant.couplings

pub invariant_of-result-2 : goal.invariant_of-result-2
invariant_of-result-2 c =
    let f = c.args.self in
    let kind = c.args.kind in
    let chains = c.args.chains in
    let ising : IsIsing f = subst IsIsing c.self.view_is c.self.invariant in
    let formed = written_is_well_formed f c.args.variables c.args.figures c.args.unit kind chains ising c.requires.kind c.requires.scale c.requires.unit in
    let small : weight_total (written_entries kind chains f) ≤ 2 ^ 124 = omega (arith, ising.small, written_total f kind chains) in (
      subst IsWellFormed (sym (made_is c)) formed,
      subst (λ (m : Written). weight_total m.entries ≤ 2 ^ 124) (sym (made_is c)) small,
    )

pub returns : goal.returns
returns c = made_is c
