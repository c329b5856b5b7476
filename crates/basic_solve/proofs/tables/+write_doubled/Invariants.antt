use Rattle.std.proofs.Common.{length}
use Rattle.basic_solve.proofs.tables.+write_doubled.Given as goal

abbrev pub decreases-write_doubled : goal.decreases-write_doubled
decreases-write_doubled g l = length l.steps.now
