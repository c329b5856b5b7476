use Rattle.monomial_layer.proofs.Common.{◌≡◌, ◌+◌, sum_by, new_nodes}
use Rattle.monomial_layer.proofs.nodes.all_new_nodes.Given as goal

-- the nodes so far, and those of the terms that are left, are all
abbrev pub invariant-loop-literals : goal.invariant-loop-literals
invariant-loop-literals l = record {
  whole : l.nodes + sum_by new_nodes l.literals-iterator ≡ sum_by new_nodes l.table.content.terms;
}
