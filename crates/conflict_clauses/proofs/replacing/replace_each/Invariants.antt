use Rattle.conflict_clauses.proofs.Common.{◌≡◌, ◌≤◌, ◌++◌, drop, most_pairs, staying, with_clauses_from}
use Rattle.conflict_clauses.proofs.replacing.replace_each.Given as goal

-- the problem so far, and what becomes of the constraints that are left, are the whole
abbrev pub invariant-loop-i : goal.invariant-loop-i
invariant-loop-i l = record {
  clauses : with_clauses_from l.covers l.problem l.spent (drop l.i l.initial.problem.constraints)
      ≡ with_clauses_from l.covers l.initial.problem 0 l.initial.problem.constraints;
  constraints : l.problem.constraints ≡ l.initial.problem.constraints;
  kept : l.kept.items ++ staying l.covers l.spent (drop l.i l.initial.problem.constraints)
      ≡ staying l.covers 0 l.initial.problem.constraints;
  spent : l.spent ≤ most_pairs;
}
