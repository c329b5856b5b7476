use Rattle.std.proofs.Common.{arith}
use Rattle.penalty_layer.proofs.SlackSteps.{few_digits}
use Rattle.penalty_layer.proofs.slack.push_bits.Goals as goal

pub power_of_2-requires : goal.power_of_2-requires
power_of_2-requires c =
    omega (arith, few_digits c.args.range _ c.binary_digits_of-digits.ensures.value c.requires)

pub last_weight-requires-clause-count : goal.last_weight-requires-clause-count
last_weight-requires-clause-count c =
    omega (arith, few_digits c.args.range _ c.binary_digits_of-digits.ensures.value c.requires)
