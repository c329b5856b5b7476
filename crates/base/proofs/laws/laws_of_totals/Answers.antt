use Rattle.base.proofs.Totals.{total_by-append, total_by-IsPermutation}
use Rattle.base.proofs.laws.laws_of_totals.Goals as goal

pub returns-clause-append : goal.returns-clause-append
returns-clause-append c = total_by-append

pub returns-clause-permute : goal.returns-clause-permute
returns-clause-permute c = total_by-IsPermutation
