use Rattle.penalty_layer.proofs.SlackSteps.{push_digit}
use Rattle.penalty_layer.proofs.slack.push_digits.Goals as goal

pub loop-preserved : goal.loop-preserved
loop-preserved c =
    push_digit c.loop.bits.items c.push.new.self.items _ c.args.count c.loop.counter c.loop.rest c.args.last
    c.loop-test.true c.in_ok-push.ensures.items c.loop.invariant
