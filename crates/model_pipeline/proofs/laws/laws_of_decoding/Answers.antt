use Rattle.model_pipeline.proofs.LeastStates.{read_off_is_decoded}
use Rattle.model_pipeline.proofs.laws.laws_of_decoding.Goals as goal

pub returns : goal.returns
returns c = read_off_is_decoded
