use Rattle.conflict_clauses.proofs.Common.{◌≡◌, ◌∷◌, map, take, alone, with_hard}
use Rattle.conflict_clauses.proofs.clauses.add_pairs_with.Given as goal

-- the clauses with the literals so far are added
abbrev pub invariant-loop-second : goal.invariant-loop-second
invariant-loop-second l =
    l.problem
    ≡ with_hard l.initial.problem (map (λ ls. l.first ∷ ls) (map alone (take l.second-index l.others)))
