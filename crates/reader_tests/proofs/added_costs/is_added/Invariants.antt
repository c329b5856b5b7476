use Rattle.std.proofs.Common.{◌≡◌, length}
use Rattle.reader_tests.proofs.added_costs.is_added.Given as goal

-- there are four variables
abbrev pub invariant-loop-first : goal.invariant-loop-first
invariant-loop-first l = length l.together ≡ 4
