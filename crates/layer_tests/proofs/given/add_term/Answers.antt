use Rattle.std.proofs.Common.{arith, rules}
use Rattle.std.specs.Int.{w128}
use Rattle.std.proofs.lemmas.Int.{ints, to_z-of_z}
use Rattle.layer_tests.proofs.SmallTables.{total_after, size_after}
use Rattle.layer_tests.proofs.given.add_term.Goals as goal

pub returns-clause-total : goal.returns-clause-total
returns-clause-total c =
    let back = to_z-of_z w128 c.args.coefficient (search rules) in
    total_after c.add.result c.args.table.now.content c.add.new.self.content _ _ c.add.ensures.added
    (rw back (omega (arith, ints)))

pub returns-clause-size : goal.returns-clause-size
returns-clause-size c =
    size_after c.add.result c.args.table.now.content c.add.new.self.content _ _ c.add.ensures.added (omega arith)
