use Rattle.term_table.proofs.Runs.{sum_over-settled}
use Rattle.term_table.proofs.RunLaws.{settling_drops, settling_merges, settling_stays, settling_ends}
use Rattle.term_table.proofs.laws.laws_of_settling.Goals as goal

pub returns : goal.returns
returns c = record {
  drops = settling_drops;
  merges = settling_merges;
  stays = settling_stays;
  ends = settling_ends;
  sums = sum_over-settled;
}
