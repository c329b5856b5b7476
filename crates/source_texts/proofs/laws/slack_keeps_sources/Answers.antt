use Rattle.source_texts.proofs.Slacked.{slacked_costs, slacked_stands}
use Rattle.source_texts.proofs.WcnfTexts.{clauses_have_no_conflicts}
use Rattle.source_texts.proofs.laws.slack_keeps_sources.Goals as goal

pub returns-clause-stands : goal.returns-clause-stands
returns-clause-stands c = slacked_stands

pub returns-clause-costs : goal.returns-clause-costs
returns-clause-costs c = slacked_costs

pub returns-clause-clauses : goal.returns-clause-clauses
returns-clause-clauses c = clauses_have_no_conflicts
