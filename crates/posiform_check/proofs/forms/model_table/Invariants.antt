use Rattle.posiform_check.proofs.Common.{◌≡◌, ◌≤◌, ◌^◌, flat_map, weight_total, with_more, entry_sets}
use Rattle.posiform_check.proofs.forms.model_table.Given as goal

-- the terms of the entries that are left make up the rest, and they fit
abbrev pub invariant-loop-entry : goal.invariant-loop-entry
invariant-loop-entry l = record {
  whole : with_more l.terms (flat_map (entry_sets l.kind) l.entry-iterator)
      ≡ record { width = l.nodes; terms = flat_map (entry_sets l.kind) l.entries };
  small : weight_total l.entry-iterator ≤ 2 ^ 121;
}
