use Rattle.std.proofs.Common.{arith}
use Rattle.embedding_check.proofs.Noting.{arrow_none, arrow_some}
use Rattle.embedding_check.proofs.least.arrow.Goals as goal

pub returns-in-Some : goal.returns-in-Some
returns-in-Some g c =
    arrow_some (g.H.Hardware.joined c.args.hardware.now) c.args.c.now c.args.d.now c.loop-k.k c.in-Some.b c.requires.rising c.loop-k-test.true c.loop-k.invariant
    c.in-Some.ensures

pub returns : goal.returns
returns g c =
    arrow_none (g.H.Hardware.joined c.args.hardware.now) c.args.c.now c.args.d.now
    (λ i low. c.loop-k.invariant i (omega (arith, low)))
