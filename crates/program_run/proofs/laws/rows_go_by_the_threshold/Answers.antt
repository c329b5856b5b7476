use Rattle.program_run.proofs.Thresholds.{rows_by_threshold}
use Rattle.program_run.proofs.laws.rows_go_by_the_threshold.Goals as goal

pub returns : goal.returns
returns c = rows_by_threshold
