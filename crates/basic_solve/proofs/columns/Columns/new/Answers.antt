use Rattle.basic_solve.proofs.Common.{refl, arith, turned}
use Rattle.std.proofs.lemmas.List.Sorted.{IsPermutation-map}
use Rattle.basic_solve.proofs.ColumnLists.{turned-columns}
use Rattle.basic_solve.proofs.columns.Columns.new.Goals as goal

pub invariant_of-result : goal.invariant_of-result
invariant_of-result c =
    turned-columns c.args.nodes c.args.pairs c.in_ok-pairs.pairs (omega arith)
    c.in_ok-pairs.ensures.same c.in_ok-pairs.ensures.ordered c.requires.placed c.requires.light

pub returns : goal.returns
returns c = record {
  kind = refl;
  nodes = refl;
  entries = IsPermutation-map turned c.args.pairs c.in_ok-pairs.pairs c.in_ok-pairs.ensures.same;
}
