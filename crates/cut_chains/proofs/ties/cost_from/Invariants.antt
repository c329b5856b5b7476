use Rattle.cut_chains.proofs.Common.{◌≡◌, ◌+◌, ◌≤◌, length, drop, weight_total}
use Rattle.cut_chains.proofs.ties.cost_from.Given as goal

-- the cost so far, and that of what is left
abbrev pub invariant-loop-k : goal.invariant-loop-k
invariant-loop-k l = record {
  within : l.k ≤ length l.couplings;
  cost : l.cost + weight_total (drop l.k l.couplings) ≡ weight_total (drop l.start l.couplings);
}
