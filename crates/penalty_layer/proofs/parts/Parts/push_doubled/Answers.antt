use Rattle.penalty_layer.proofs.Common.{nat_tests}
use Rattle.std.proofs.Common.{arith}
use Rattle.penalty_layer.proofs.SlackSteps.{push_weight, power_small, power_more}
use Rattle.penalty_layer.proofs.parts.Parts.push_doubled.Goals as goal

pub push_slack_bit-requires : goal.push_slack_bit-requires
push_slack_bit-requires c = grind (arith, nat_tests, power_small)

pub overflow_mul-weight : goal.overflow_mul-weight
overflow_mul-weight c =
    let inside = c.loop-test.true in
    let few = c.requires.count in
    record { fits = omega (arith, power_small c.loop.counter (omega arith), c.loop.invariant.weight) }

pub loop-preserved : goal.loop-preserved
loop-preserved c =
    let i = c.loop.counter in
    record {
      number = omega (arith, c.loop.invariant.number);
      weight = omega (arith, c.loop.invariant.weight, power_more i);
      whole =
          push_weight c.loop.self c.push_slack_bit.new.self _ c.args.count i c.loop.number c.loop.weight c.args.last
          c.loop-test.true c.in_ok-push_slack_bit.ensures c.loop.invariant.whole;
    }
