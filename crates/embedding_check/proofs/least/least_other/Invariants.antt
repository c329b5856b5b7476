use Rattle.std.proofs.Common.{ℕ}
use Rattle.embedding_check.specs.Least.{IsLeast}
use Rattle.embedding_check.specs.Least.{IsOtherAhead}
use Rattle.embedding_check.proofs.least.least_other.Given as goal

-- the least of the others so far
abbrev pub invariant-loop-k : goal.invariant-loop-k
invariant-loop-k g l =
    IsLeast (IsOtherAhead (g.H.Hardware.joined l.hardware) l.a l.chain
    (record { start = (g.H.Hardware.others l.hardware l.a).start; end = l.k })
    (g.H.Hardware.other l.hardware l.a)) l.least
