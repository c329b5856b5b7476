use Rattle.problem_form.proofs.NormalForms.{normal_form-cost}
use Rattle.problem_form.proofs.laws.normal_form_keeps_costs.Goals as goal

pub returns : goal.returns
returns c = normal_form-cost
