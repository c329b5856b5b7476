use Rattle.quad_form.proofs.Common.{◌≡◌, ◌≤◌, ◌^◌, ◌++◌, ℤ, List, length, subst, sym, ap, ◌∙◌, to_z, of_z, pos, neg_ℤ, ◌-ℤ◌, arith, rules, w128, ints, to_z-of_z, Written, IsWellFormed, weight_total, figures_moved, QuadContent, IsQuad, entries_of, node_entries, written_of, Qubo}
use Rattle.quad_form.proofs.NodeEntries.{all_upward}
use Rattle.quad_form.proofs.WrittenModels.{written_is_well_formed}
use Rattle.quad_form.proofs.quad.Quad.output.Goals as goal

-- what the code makes
abbrev made : (c : goal.After-empty) → Written
made c = record {
  kind = Qubo;
  variables = c.args.variables;
  figures = c.moved.result;
  unit = to_z w128 (of_z w128 c.args.unit);
  nodes = c.len.result;
  entries = c.numbered.result ++ c.self.inside.couplers;
  chains = c.empty.result;
}

-- .. is the model of the form
made_is : (c : goal.After-empty)
    → made c ≡ written_of c.args.self c.args.variables c.args.figures c.args.unit
made_is c =
    let inside = c.self.inside in
    let q : QuadContent = record { constant = inside.constant; diagonal = inside.diagonal; couplers = inside.couplers } in
    let less : to_z w128 (of_z w128 (pos 0 -ℤ to_z w128 (of_z w128 q.constant))) ≡ neg_ℤ q.constant = omega (arith, ints, c.self.invariant.small) in
    let figures = c.moved.ensures ∙ ap (figures_moved c.args.figures) less in
    let unit = to_z-of_z w128 c.args.unit (search rules) in
    let size : c.len.result ≡ length c.into_vec-weights.result.items = search rules in
    let nodes = size ∙ ap length c.into_vec-weights.ensures in
    let weights = c.numbered.ensures ∙ ap (λ (ws : List ℤ). node_entries 0 ws) c.into_vec-weights.ensures in
    let whole : made c ≡ written_of q c.args.variables c.args.figures c.args.unit = λ i. record {
      kind = Qubo;
      variables = c.args.variables;
      figures = figures i;
      unit = unit i;
      nodes = nodes i;
      entries = weights i ++ inside.couplers;
      chains = c.empty.ensures i;
    } in
    whole
    ∙ ap (λ (f : QuadContent). written_of f c.args.variables c.args.figures c.args.unit) c.self.view_is

-- the entries keep the form's couplers
pub invariant_of-result : goal.invariant_of-result
invariant_of-result c = all_upward (length c.self.inside.diagonal) c.self.inside.couplers c.self.invariant.couplers

pub invariant_of-result-2 : goal.invariant_of-result-2
invariant_of-result-2 c =
    let q = c.args.self in
    let quad : IsQuad q = subst IsQuad c.self.view_is c.self.invariant in
    let formed = written_is_well_formed q c.args.variables c.args.figures c.args.unit quad c.requires.enough c.requires.scale c.requires.unit in
    let small : weight_total (entries_of q) ≤ 2 ^ 124 = omega (arith, quad.small) in (
      subst IsWellFormed (sym (made_is c)) formed,
      subst (λ (m : Written). weight_total m.entries ≤ 2 ^ 124) (sym (made_is c)) small,
    )

pub returns : goal.returns
returns c = made_is c
