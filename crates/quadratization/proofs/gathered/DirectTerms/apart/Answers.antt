use Rattle.quadratization.proofs.Common.{nat_tests, arith}
use Rattle.quadratization.proofs.HeldSums.{held-apart}
use Rattle.quadratization.proofs.gathered.DirectTerms.apart.Goals as goal

pub returns-clause-short : goal.returns-clause-short
returns-clause-short c t held = grind (arith, nat_tests, held-apart)
