use Rattle.model_pipeline.proofs.FewNodes.{nodes_are_few}
use Rattle.model_pipeline.proofs.size_laws.laws_of_sizes.Goals as goal

pub returns : goal.returns
returns c = record { few = nodes_are_few }
