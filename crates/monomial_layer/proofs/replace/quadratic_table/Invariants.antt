use Rattle.monomial_layer.proofs.Common.{◌≡◌, ◌+◌, ◌≤◌, ◌^◌, sum_by, terms_total, Rest, new_nodes, all_new_terms}
use Rattle.monomial_layer.proofs.Adding.{Holds, Takes, empty_of}
use Rattle.monomial_layer.proofs.replace.quadratic_table.Given as goal

-- what stands for the terms so far was added; what stands for those left is small, and its nodes are
-- the last ones
abbrev pub invariant-loop-literals : goal.invariant-loop-literals
invariant-loop-literals l = record {
  rest : Rest Takes Holds (empty_of l.table.content) l.quadratic (all_new_terms l.literals-iterator l.next) (all_new_terms l.table.content.terms l.table.content.width);
  numbered : l.next + sum_by new_nodes l.literals-iterator ≡ l.table.content.width + sum_by new_nodes l.table.content.terms;
  small : terms_total (all_new_terms l.literals-iterator l.next) ≤ 2 ^ 124;
}
