use Rattle.problem_form.proofs.Lemmas.{answered_number-power}
use Rattle.problem_form.proofs.pairs.power_of_2.Goals as goal

pub returns-else-exponent-lt128 : goal.returns-else-exponent-lt128
returns-else-exponent-lt128 c = answered_number-power c.args.exponent c.if-exponent-lt128.false
