use Rattle.model_pipeline.proofs.LeastStates.{first_are_decoded, least_extends}
use Rattle.model_pipeline.proofs.laws.laws_of_extensions.Goals as goal

pub returns-clause-first : goal.returns-clause-first
returns-clause-first c = first_are_decoded

pub returns-clause-least : goal.returns-clause-least
returns-clause-least c = least_extends
