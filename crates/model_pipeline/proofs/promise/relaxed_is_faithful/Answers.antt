use Rattle.model_pipeline.proofs.faithful.LeastStates.{relaxed_is_faithful}
use Rattle.model_pipeline.proofs.promise.relaxed_is_faithful.Goals as goal

pub returns : goal.returns
returns c = relaxed_is_faithful
