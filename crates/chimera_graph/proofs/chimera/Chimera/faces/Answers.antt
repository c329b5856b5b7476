use Rattle.std.proofs.Common.{arith}
use Rattle.std.proofs.lemmas.Bool.Decides.{nat_tests}
use Rattle.chimera_graph.proofs.Numbering.{facing_joined}
use Rattle.chimera_graph.proofs.chimera.Chimera.faces.Goals as goal

pub returns-then-start-b : goal.returns-then-start-b
returns-then-start-b c = λ near.
    let there = facing_joined c.args.self.now c.args.a c.args.b c.requires.first in
    let start = c.across-start.ensures.start in
    let here = c.if-start-b.true in grind (arith, nat_tests)
