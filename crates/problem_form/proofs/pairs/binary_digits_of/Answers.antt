use Rattle.std.proofs.Common.{arith}
use Rattle.problem_form.proofs.BinaryDigits.{digits-leading}
use Rattle.problem_form.proofs.pairs.binary_digits_of.Goals as goal

pub returns-clause-value : goal.returns-clause-value
returns-clause-value c = digits-leading 128 c.args.number (omega arith)
