use Rattle.basic_solve.proofs.Common.{arith, nat_tests}
use Rattle.basic_solve.proofs.ColumnLists.{turned_twice}
use Rattle.basic_solve.proofs.columns.columns_of.Goals as goal

pub new-requires-clause-placed : goal.new-requires-clause-placed
new-requires-clause-placed c =
    let twice = turned_twice c.model.inside.entries in
    let placed = c.model.invariant.0.placed in
    grind (arith, nat_tests)

pub returns : goal.returns
returns c =
    let twice = turned_twice c.model.inside.entries in
    let view = c.model.view_is in
    grind (arith, nat_tests)
