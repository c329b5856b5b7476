use Rattle.basic_solve.proofs.Common.{◌≡◌, ◌+◌, ◌*◌, ◌≤◌, ◌+ℤ◌, unsigned_abs, List, Bool, length, drop, sum_by, total_by, weight_total, sum_where, step_at}
use Rattle.basic_solve.proofs.elimination.steps.Given as goal

-- the steps so far, and the entries that are left
abbrev pub invariant-loop-entry : goal.invariant-loop-entry
invariant-loop-entry l =
    (length l.into.items ≡ length l.nodes)
    × ((y : List Bool) → sum_where y l.nodes l.into.items +ℤ total_by (step_at l.kind l.bit y)
    (drop l.entry-index l.entries)
    ≡ total_by (step_at l.kind l.bit y) l.entries)
    × (sum_by unsigned_abs l.into.items + 2 * weight_total (drop l.entry-index l.entries)
    ≤ 2 * weight_total l.entries)
