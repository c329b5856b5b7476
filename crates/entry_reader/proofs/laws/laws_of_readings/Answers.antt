use Rattle.entry_reader.proofs.ReadCosts.{reading_keeps_costs}
use Rattle.entry_reader.proofs.laws.laws_of_readings.Goals as goal

pub returns : goal.returns
returns c = reading_keeps_costs
