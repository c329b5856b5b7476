use Rattle.source_texts.proofs.Readings.{plain_owns_all, stays_stood_for}
use Rattle.source_texts.proofs.Standing.{problem_costs}
use Rattle.source_texts.proofs.laws.problems_cost_as_sources.Goals as goal

pub returns-clause-costs : goal.returns-clause-costs
returns-clause-costs c = problem_costs

pub returns-clause-plain : goal.returns-clause-plain
returns-clause-plain c = plain_owns_all

pub returns-clause-stays : goal.returns-clause-stays
returns-clause-stays c = stays_stood_for
