use Rattle.wbo_reader.proofs.Fronts.{words_are_enough}
use Rattle.wbo_reader.proofs.ReadCosts.{reading_keeps_costs_of_text}
use Rattle.wbo_reader.proofs.Standing.{content_is_normal, rewrites_its_text}
use Rattle.wbo_reader.proofs.laws.laws_of_readings.Goals as goal

pub returns-clause-normal : goal.returns-clause-normal
returns-clause-normal c = content_is_normal

pub returns-clause-costs : goal.returns-clause-costs
returns-clause-costs c = reading_keeps_costs_of_text

pub returns-clause-rewrites : goal.returns-clause-rewrites
returns-clause-rewrites c = rewrites_its_text

pub returns-clause-enough : goal.returns-clause-enough
returns-clause-enough c = words_are_enough
