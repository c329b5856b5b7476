use Rattle.opb_reader.proofs.ReadCosts.{reading_keeps_costs}
use Rattle.opb_reader.proofs.Shrinking.{words_are_enough}
use Rattle.opb_reader.proofs.laws.laws_of_readings.Goals as goal

pub returns-clause-costs : goal.returns-clause-costs
returns-clause-costs c = reading_keeps_costs

pub returns-clause-enough : goal.returns-clause-enough
returns-clause-enough c = words_are_enough
