use Rattle.posiform_check.proofs.Common.{ap, arith, ints, on_ok_weaker, coefficient_of, KeptTable, coefficient_of-with_additions}
use Rattle.posiform_check.proofs.Sums.{coefficients-append}
use Rattle.posiform_check.proofs.quick.add_lines.Goals as goal

pub add_each_line-requires-clause-nodes : goal.add_each_line-requires-clause-nodes
add_each_line-requires-clause-nodes c = rw c.new-long.ensures c.requires.nodes

pub add_each_line-requires-clause-none : goal.add_each_line-requires-clause-none
add_each_line-requires-clause-none c = λ i. (c.new-long.ensures i).terms

pub add_each_line-requires-clause-list : goal.add_each_line-requires-clause-list
add_each_line-requires-clause-list c = c.new-list.ensures.items

pub returns : goal.returns
returns c =
    on_ok_weaker c.add_table.result (λ more set. omega (
      arith,
      ints,
      c.in_ok-add_each_line.ensures set,
      coefficients-append set c.add_each_line.new.sums c.add_each_line.new.long.terms,
      more set,
      ap (λ (t : KeptTable). coefficient_of set t.content.terms) c.into_table.ensures,
      coefficient_of-with_additions set c.add_each_line.new.long.terms,
    )) c.add_table.ensures
