use Rattle.basic_solve.proofs.Common.{arith, nat_tests, append_assoc, at_drop_more, lesser_nodes}
use Rattle.basic_solve.proofs.ColumnLists.{no_entry}
use Rattle.basic_solve.proofs.neighbours.push_lesser.Goals.{then-entry+in_ok-push, else-entry}
use Rattle.basic_solve.proofs.neighbours.push_lesser.Goals as goal

pub loop-entry-preserved : goal.loop-entry-preserved
loop-entry-preserved c =
    let left = at_drop_more lesser_nodes c.args.column.now c.loop-entry.entry-index no_entry c.loop-entry-test.true in
    elim c.if-entry.branch [
      | then-entry+in_ok-push w ↦ grind (arith, nat_tests, append_assoc)
      | else-entry w ↦ grind (arith, nat_tests)
    ]
