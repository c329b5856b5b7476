use Rattle.ising_form.proofs.WrittenModels.{written_is_well_formed, written_relaxes, written_stays}
use Rattle.ising_form.proofs.laws.written_stands_for_its_form.Goals as goal

pub returns-clause-well_formed : goal.returns-clause-well_formed
returns-clause-well_formed c = written_is_well_formed

pub returns-clause-relaxes : goal.returns-clause-relaxes
returns-clause-relaxes c = written_relaxes

pub returns-clause-stays : goal.returns-clause-stays
returns-clause-stays c = written_stays
