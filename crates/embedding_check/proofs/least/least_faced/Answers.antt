use Rattle.std.proofs.Common.{sym, ◌∙◌, arith}
use Rattle.embedding_check.proofs.Taking.{rising_weak}
use Rattle.embedding_check.proofs.Noting.{none_faced, some_faced}
use Rattle.embedding_check.proofs.least.least_faced.Goals as goal

pub returns-then-chain-k : goal.returns-then-chain-k
returns-then-chain-k g c =
    none_faced (g.H.Hardware.joined c.args.hardware.now) c.args.a _ c.args.span c.loop-k.k c.loop-k.invariant
    (λ i high low. omega (arith, rising_weak _ c.requires.rising c.loop-k.k i high low))

pub returns-then-joined : goal.returns-then-joined
returns-then-joined g c =
    let after = c.position_of-k.ensures.after c.loop-k.k c.loop-k.auto.k c.loop-k-test.true in
    some_faced (g.H.Hardware.joined c.args.hardware.now) c.args.a _ c.args.span c.loop-k.k c.requires.rising c.loop-k.invariant
    c.loop-k-test.true (omega (arith, after)) (omega (arith, after)) c.if-chain-k.false
    (sym c.joined.ensures ∙ c.if-joined.true)

pub returns : goal.returns
returns g c =
    none_faced (g.H.Hardware.joined c.args.hardware.now) c.args.a _ c.args.span c.loop-k.k c.loop-k.invariant
    (λ i high low. absurd (omega (arith, high, low)))
