use Rattle.basic_solve.proofs.Common.{◌≡◌, ◌++◌, map, turned}
use Rattle.basic_solve.proofs.columns.pairs_of.Given as goal

-- the entries so far, and then those that are left, are all of them
abbrev pub invariant-loop-entry : goal.invariant-loop-entry
invariant-loop-entry l = l.pairs ++ map turned l.entry-iterator ≡ map turned l.entries
