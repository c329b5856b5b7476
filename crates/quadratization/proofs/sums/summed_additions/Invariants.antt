use Rattle.quadratization.proofs.Common.{◌≡◌, ◌+◌, ◌≤◌, ◌^◌, ◌++◌, map, drop, unsigned_abs, terms_total, sums_of, product_term, additions_at, sums_with}
use Rattle.quadratization.proofs.sums.summed_additions.Given as goal

-- the sums so far, and then those of what is left with the sum that waits
abbrev pub invariant-loop-i : goal.invariant-loop-i
invariant-loop-i l = record {
  whole :
      map product_term l.products ++ sums_with l.sum (additions_at l.additions (drop l.i l.order))
      ≡ sums_of (additions_at l.additions l.order);
  small : unsigned_abs l.sum + terms_total (additions_at l.additions (drop l.i l.order)) ≤ 2 ^ 124;
}
