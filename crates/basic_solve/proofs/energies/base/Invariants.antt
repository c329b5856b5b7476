use Rattle.basic_solve.proofs.Common.{◌≡◌, ◌+◌, ◌≤◌, ◌^◌, ◌+ℤ◌, unsigned_abs, drop, total_by, weight_total, base_of}
use Rattle.basic_solve.proofs.energies.base.Given as goal

-- the sum so far, and what is left
abbrev pub invariant-loop-entry : goal.invariant-loop-entry
invariant-loop-entry l =
    (l.sum +ℤ total_by (base_of l.kind l.bit) (drop l.entry-index l.entries)
    ≡ total_by (base_of l.kind l.bit) l.entries)
    × (unsigned_abs l.sum + weight_total (drop l.entry-index l.entries) ≤ 2 ^ 124)
