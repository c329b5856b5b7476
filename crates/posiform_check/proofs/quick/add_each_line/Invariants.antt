use Rattle.posiform_check.proofs.Common.{◌≡◌, ◌+ℤ◌, ◌++◌, List, [], flat_map, Literal, coefficient_of, AreAdditions, with_more, line_terms}
use Rattle.posiform_check.proofs.quick.add_each_line.Given as goal

-- the sums, the gathered terms and those of the lines that are left are the sums at first and all
-- lines; and what is left fits
abbrev pub invariant-loop-literals : goal.invariant-loop-literals
invariant-loop-literals l = record {
  whole : (set : List Literal) → coefficient_of set (l.sums ++ l.long.terms)
      +ℤ coefficient_of set (flat_map line_terms l.literals-iterator) ≡ coefficient_of set l.fn.sums
      +ℤ coefficient_of set (flat_map line_terms l.certificate.lines);
  fits : AreAdditions (with_more l.long (flat_map line_terms l.literals-iterator));
  list : l.list.items ≡ [];
}
