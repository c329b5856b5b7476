use Rattle.model_pipeline.proofs.faithful.LeastStates.{relaxed_stands}
use Rattle.model_pipeline.proofs.faithful.LeastSteps.{kept_stands, reduced_stands}
use Rattle.model_pipeline.proofs.faithful.LongerSources.{rewritten_stands}
use Rattle.model_pipeline.proofs.promise.least_states_compose.Goals as goal

pub returns-clause-relaxed : goal.returns-clause-relaxed
returns-clause-relaxed c = relaxed_stands

pub returns-clause-kept : goal.returns-clause-kept
returns-clause-kept c = λ f g h d e n a b p k. kept_stands p k

pub returns-clause-reduced : goal.returns-clause-reduced
returns-clause-reduced c = reduced_stands

pub returns-clause-rewritten : goal.returns-clause-rewritten
returns-clause-rewritten c = rewritten_stands
