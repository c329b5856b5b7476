use Rattle.source_texts.proofs.Penalized.{penalized_costs, penalized_stands}
use Rattle.source_texts.proofs.laws.penalties_keep_sources.Goals as goal

pub returns-clause-stands : goal.returns-clause-stands
returns-clause-stands c = penalized_stands

pub returns-clause-costs : goal.returns-clause-costs
returns-clause-costs c = penalized_costs
