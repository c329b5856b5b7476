use Rattle.program_run.proofs.OneModel.{one_model}
use Rattle.program_run.proofs.laws.plans_make_one_model.Goals as goal

pub returns : goal.returns
returns c = one_model
