use Rattle.std.proofs.Common.{arith}
use Rattle.penalty_layer.proofs.SlackSteps.{few_digits}
use Rattle.penalty_layer.proofs.parts.Parts.push_slack.Goals as goal

pub last_weight-requires-clause-count : goal.last_weight-requires-clause-count
last_weight-requires-clause-count c =
    omega (arith, few_digits c.args.range _ c.binary_digits_of-digits.ensures.value c.requires.range)

pub push_doubled-requires-clause-count : goal.push_doubled-requires-clause-count
push_doubled-requires-clause-count c =
    omega (arith, few_digits c.args.range _ c.binary_digits_of-digits.ensures.value c.requires.range)
