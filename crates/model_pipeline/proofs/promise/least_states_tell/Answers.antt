use Rattle.model_pipeline.proofs.faithful.Told.{least_states_tell}
use Rattle.model_pipeline.proofs.promise.least_states_tell.Goals as goal

pub returns : goal.returns
returns c = least_states_tell
