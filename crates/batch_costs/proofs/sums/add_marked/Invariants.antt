use Rattle.batch_costs.proofs.Common.{◌≡◌, ℕ, ◌<◌, ◌+ℤ◌, pos, length, get_or, if_so, is_marked}
use Rattle.batch_costs.proofs.sums.add_marked.Given as goal

-- each sum, with the number where it is still to be added, is as it is to be
abbrev pub invariant-loop-rest : goal.invariant-loop-rest
invariant-loop-rest l = record {
  places : length l.sums ≡ 64;
  sums : (k : ℕ) → k < 64 → get_or l.sums k (pos 0) +ℤ if_so (is_marked l.rest k) l.number
      ≡ get_or l.fn.sums k (pos 0) +ℤ if_so (is_marked l.marks k) l.number;
}

abbrev pub decreases-loop-rest : goal.decreases-loop-rest
decreases-loop-rest l = l.rest
