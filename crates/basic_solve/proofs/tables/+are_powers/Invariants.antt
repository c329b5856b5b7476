use Rattle.std.proofs.Common.{length}
use Rattle.basic_solve.proofs.tables.+are_powers.Given as goal

abbrev pub decreases-are_powers : goal.decreases-are_powers
decreases-are_powers l = length l.digits.now
