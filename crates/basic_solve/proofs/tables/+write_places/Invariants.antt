use Rattle.std.proofs.Common.{length}
use Rattle.basic_solve.proofs.tables.+write_places.Given as goal

abbrev pub decreases-write_places : goal.decreases-write_places
decreases-write_places l = length l.steps.now
