use Rattle.std.proofs.Common.{◌≡◌, length}
use Rattle.reader_tests.proofs.added_costs.put_all.Given as goal

-- there are four variables
abbrev pub invariant-loop-place : goal.invariant-loop-place
invariant-loop-place l = length l.together ≡ 4
