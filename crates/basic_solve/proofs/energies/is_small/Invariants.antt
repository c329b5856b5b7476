use Rattle.basic_solve.proofs.Common.{◌≡◌, ◌+◌, drop, weight_total}
use Rattle.basic_solve.proofs.energies.is_small.Given as goal

-- the sum so far, and what is left
abbrev pub invariant-loop-i : goal.invariant-loop-i
invariant-loop-i l = l.sum + weight_total (drop l.i l.model.entries) ≡ weight_total l.model.entries
