use Rattle.posiform_check.proofs.Common.{◌≡◌, [], flat_map, with_more, certificate_terms, line_terms}
use Rattle.posiform_check.proofs.forms.add_all.Given as goal

-- the terms of the lines that are left make up the rest
abbrev pub invariant-loop-literals : goal.invariant-loop-literals
invariant-loop-literals l = record {
  whole : with_more l.terms (flat_map line_terms l.literals-iterator)
      ≡ record { width = l.fn.terms.width; terms = certificate_terms l.certificate };
  list : l.list.items ≡ [];
}
