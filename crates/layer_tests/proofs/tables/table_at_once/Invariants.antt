use Rattle.std.proofs.Common.{◌≡◌, ◌*◌, ◌≤◌}
use Rattle.term_table.specs.Terms.{terms_total}
use Rattle.layer_tests.proofs.tables.table_at_once.Given as goal

-- each term adds at most 1,000 to the sizes
abbrev pub invariant-loop-literals : goal.invariant-loop-literals
invariant-loop-literals l = record {
  width : l.gathered.width ≡ l.width;
  total : terms_total l.gathered.terms ≤ l.literals-index * 1000;
}
