use Rattle.rosenberg_layer.proofs.Common.{◌≡◌, ◌++◌, ◌+◌, ◌≤◌, ◌^◌, All, filter, map, Term, terms_total, IsTermSet, is_long, term_after}
use Rattle.rosenberg_layer.proofs.pairs.after.Given as goal

-- what became of the terms so far, and the terms that are left
abbrev pub invariant-loop-literals : goal.invariant-loop-literals
invariant-loop-literals l = record {
  width : l.terms.width ≡ l.width;
  whole : l.terms.terms ++ filter is_long (map (term_after l.pair l.node) l.literals-iterator)
      ≡ filter is_long (map (term_after l.pair l.node) l.table.content.terms);
  sets : All (λ (t : Term). IsTermSet l.width (term_after l.pair l.node t).0) l.literals-iterator;
  small : terms_total l.terms.terms + terms_total l.literals-iterator ≤ 2 ^ 124;
}
