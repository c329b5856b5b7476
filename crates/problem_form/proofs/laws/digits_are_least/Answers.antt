use Rattle.problem_form.proofs.BinaryDigits.{digits_are_least}
use Rattle.problem_form.proofs.laws.digits_are_least.Goals as goal

pub returns : goal.returns
returns c = digits_are_least
