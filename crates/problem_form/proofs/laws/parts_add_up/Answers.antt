use Rattle.problem_form.proofs.AddedParts.{parts_add_up}
use Rattle.problem_form.proofs.laws.parts_add_up.Goals as goal

pub returns : goal.returns
returns c = parts_add_up
