use Rattle.normal_form.proofs.Common.{◌≡◌, [], AreAdditions, with_more, contributions, multiplied}
use Rattle.normal_form.proofs.multiplied.expand.Given as goal

-- what the terms that are left are multiplied out to makes up the rest, and all of it fits
abbrev pub invariant-loop-literals : goal.invariant-loop-literals
invariant-loop-literals l = record {
  whole : with_more l.terms (contributions l.literals-iterator) ≡ multiplied l.table.content;
  fits : AreAdditions (multiplied l.table.content);
  list : l.list.items ≡ [];
}
