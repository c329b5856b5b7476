use Rattle.quad_form.proofs.WrittenModels.{written_is_well_formed, written_relaxes, written_stays}
use Rattle.quad_form.proofs.laws.written_stands_for_its_form.Goals as goal

pub returns : goal.returns
returns c = record { well_formed = written_is_well_formed; relaxes = written_relaxes; stays = written_stays }
