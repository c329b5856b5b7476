use Rattle.basic_solve.proofs.Common.{◌≡◌, ◌++◌, drop, lesser_nodes}
use Rattle.basic_solve.proofs.neighbours.push_lesser.Given as goal

-- the lesser nodes so far, and those of the entries that are left
abbrev pub invariant-loop-entry : goal.invariant-loop-entry
invariant-loop-entry l =
    l.into.items ++ lesser_nodes (drop l.entry-index l.column)
    ≡ l.initial.into.items ++ lesser_nodes l.column
