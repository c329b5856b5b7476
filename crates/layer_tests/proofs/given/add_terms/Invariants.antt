use Rattle.std.proofs.Common.{◌≡◌, ◌+◌, ◌*◌, ◌≤◌}
use Rattle.term_table.specs.Terms.{terms_total, terms_size}
use Rattle.layer_tests.proofs.given.add_terms.Given as goal

-- each term adds at most 1,000 to the sizes, and 25 to the squares of the degrees
abbrev pub invariant-loop-literals : goal.invariant-loop-literals
invariant-loop-literals l = record {
  width : l.table.content.width ≡ l.width;
  total : terms_total l.table.content.terms ≤ terms_total l.fn.table.content.terms + l.literals-index * 1000;
  size : terms_size l.table.content.terms ≤ terms_size l.fn.table.content.terms + l.literals-index * 25;
}
