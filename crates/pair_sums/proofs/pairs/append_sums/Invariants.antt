use Rattle.pair_sums.proofs.Common.{◌≡◌, ◌+◌, ◌≤◌, ◌^◌, ◌++◌, drop, unsigned_abs, weight_total, sums_from, sums_of}
use Rattle.pair_sums.proofs.pairs.append_sums.Given as goal

-- the couplers so far, then the pending one with those that are left, and that these stay small
abbrev pub invariant-loop-i : goal.invariant-loop-i
invariant-loop-i l = record {
  whole :
      l.couplers ++ sums_from l.pending (drop l.i l.pairs) ≡ l.initial.couplers ++ sums_of l.pairs;
  small : unsigned_abs l.pending.weight + weight_total (drop l.i l.pairs) ≤ 2 ^ 126;
}
