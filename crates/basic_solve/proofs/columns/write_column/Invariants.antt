use Rattle.basic_solve.proofs.Common.{◌≡◌, ◌++◌, ◌<◌, ◌≤◌, ℕ, map, take, column, turned}
use Rattle.basic_solve.proofs.columns.write_column.Given as goal

-- the column is what is written, and what it has before the start; other columns are before it
abbrev pub invariant-loop-start : goal.invariant-loop-start
invariant-loop-start l =
    (l.start ≤ l.end)
    × (l.into.items ++ column l.node (take l.start (map turned l.pairs))
    ≡ column l.node (take l.end (map turned l.pairs)))
    × ((v : ℕ) → v < l.node
    → column v (take l.start (map turned l.pairs)) ≡ column v (take l.end (map turned l.pairs)))

abbrev pub decreases-loop-start : goal.decreases-loop-start
decreases-loop-start l = l.start
