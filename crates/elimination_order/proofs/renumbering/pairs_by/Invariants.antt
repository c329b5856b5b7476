use Rattle.elimination_order.proofs.Common.{◌≡◌, ◌++◌, map, renumbered}
use Rattle.basic_solve.specs.Columns.{turned}
use Rattle.elimination_order.proofs.renumbering.pairs_by.Given as goal

-- the entries so far, and then those that are left, are all of them
abbrev pub invariant-loop-entry : goal.invariant-loop-entry
invariant-loop-entry l =
    l.pairs ++ map (λ e. turned (renumbered l.numbers e)) l.entry-iterator
    ≡ map (λ e. turned (renumbered l.numbers e)) l.entries
