use Rattle.term_table.proofs.Runs.{coefficient_of-merged, few_runs}
use Rattle.term_table.proofs.SettlingRuns.{entries_of_runs}
use Rattle.term_table.proofs.laws.laws_of_runs.Goals as goal

pub returns : goal.returns
returns c = record { merged = coefficient_of-merged; few = few_runs; small = entries_of_runs }
