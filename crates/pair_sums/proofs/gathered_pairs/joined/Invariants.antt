use Rattle.std.proofs.Common.{◌≡◌, ◌++◌}
use Rattle.pair_sums.proofs.gathered_pairs.joined.Given as goal

-- the couplers that are left make them all
abbrev pub invariant-loop-entry : goal.invariant-loop-entry
invariant-loop-entry l = l.pairs ++ l.entry-iterator ≡ l.fn.pairs ++ l.fn.couplers
