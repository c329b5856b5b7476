use Rattle.model_pipeline.proofs.faithful.EnergySizes.{energies_bounded}
use Rattle.model_pipeline.proofs.promise.energies_are_bounded.Goals as goal

pub returns : goal.returns
returns c = energies_bounded
