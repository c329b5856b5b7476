use Rattle.std.proofs.Common.{arith}
use Rattle.std.proofs.lemmas.Int.{ints}
use Rattle.layer_tests.proofs.SmallTables.{total_after}
use Rattle.layer_tests.proofs.SixLiterals.{size_after_six}
use Rattle.layer_tests.proofs.substitutions.add_drawn.Goals as goal

pub returns-clause-total : goal.returns-clause-total
returns-clause-total c =
    total_after c.add.result c.args.table.now.content c.add.new.self.content _ _ c.add.ensures.added
    (omega (arith, ints, c.draw_coefficient-coefficient.ensures))

pub returns-clause-size : goal.returns-clause-size
returns-clause-size c =
    size_after_six c.add.result c.args.table.now.content c.add.new.self.content _ _ c.add.ensures.added (omega arith)
