use Rattle.local_penalties.proofs.Common.{◌≡◌, ◌++◌, drop, next_constraints, number_of}
use Rattle.local_penalties.proofs.rounds.next_constraints.Given as goal

-- the penalties so far, and those of the constraints that are left, are all
abbrev pub invariant-loop-i : goal.invariant-loop-i
invariant-loop-i l =
    l.next.items ++ next_constraints (number_of l.numbers) l.whole (drop l.i l.found) (drop l.i l.constraints)
    ≡ next_constraints (number_of l.numbers) l.whole l.found l.constraints
