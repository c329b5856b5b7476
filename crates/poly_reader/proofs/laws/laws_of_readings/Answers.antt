use Rattle.poly_reader.proofs.NumberedNames.{names_are_numbered}
use Rattle.poly_reader.proofs.ReadCosts.{reading_keeps_costs}
use Rattle.poly_reader.proofs.laws.laws_of_readings.Goals as goal

pub returns-clause-costs : goal.returns-clause-costs
returns-clause-costs c = reading_keeps_costs

pub returns-clause-numbers : goal.returns-clause-numbers
returns-clause-numbers c = names_are_numbered
