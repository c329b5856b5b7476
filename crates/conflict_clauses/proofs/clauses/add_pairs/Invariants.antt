use Rattle.conflict_clauses.proofs.Common.{◌≡◌, map, drop, pairs_of, alone, with_hard}
use Rattle.conflict_clauses.proofs.clauses.add_pairs.Given as goal

-- the problem so far, and the pairs of the literals that are left, are the whole
abbrev pub invariant-loop-i : goal.invariant-loop-i
invariant-loop-i l = record {
  whole : with_hard l.problem (pairs_of (map alone (drop l.i l.literals)))
      ≡ with_hard l.initial.problem (pairs_of (map alone l.literals));
  variables : l.problem.variables ≡ l.initial.problem.variables;
}
