use Rattle.conflict_clauses.proofs.Common.{◌≡◌, map, take, alone, with_hard}
use Rattle.conflict_clauses.proofs.clauses.add_each.Given as goal

-- the clauses of the literals so far are added
abbrev pub invariant-loop-literal : goal.invariant-loop-literal
invariant-loop-literal l =
    l.problem ≡ with_hard l.initial.problem (map alone (take l.literal-index l.literals))
