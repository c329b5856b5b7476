use Rattle.model_pipeline.proofs.Tied.{least_stand_by}
use Rattle.model_pipeline.proofs.laws.laws_of_ties.Goals as goal

pub returns : goal.returns
returns c = least_stand_by
