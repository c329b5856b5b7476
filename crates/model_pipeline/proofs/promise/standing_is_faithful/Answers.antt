use Rattle.model_pipeline.proofs.faithful.LeastStates.{standing_is_faithful}
use Rattle.model_pipeline.proofs.promise.standing_is_faithful.Goals as goal

pub returns : goal.returns
returns c = standing_is_faithful
