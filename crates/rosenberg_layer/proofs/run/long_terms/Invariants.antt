use Rattle.rosenberg_layer.proofs.Common.{◌≡◌, ◌++◌, All, filter, Term, IsTermSet, is_long}
use Rattle.rosenberg_layer.proofs.run.long_terms.Given as goal

-- the terms so far, and those that are left
abbrev pub invariant-loop-literals : goal.invariant-loop-literals
invariant-loop-literals l = record {
  whole : l.long ++ filter is_long l.literals-iterator ≡ filter is_long l.table.content.terms;
  sets : All (λ (t : Term). IsTermSet l.table.content.width t.0) l.literals-iterator;
}
