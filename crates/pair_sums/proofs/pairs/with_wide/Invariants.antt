use Rattle.std.proofs.Common.{◌≡◌, take}
use Rattle.pair_sums.proofs.pairs.with_wide.Given as goal

-- the couplers so far
abbrev pub invariant-loop-i : goal.invariant-loop-i
invariant-loop-i l = l.wide.items ≡ take l.i l.pairs
