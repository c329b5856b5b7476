use Rattle.problem_form.proofs.Lemmas.{◌<◌, ◌^◌, sum_by, constraint_pairs, constraint_total, Answered}
use Rattle.problem_form.proofs.pairs.constraints_pairs.Given as goal

-- the pairs so far and those of the constraints that are left are the whole
abbrev pub invariant-loop-constraint : goal.invariant-loop-constraint
invariant-loop-constraint l = record {
  counted : Answered (constraint_pairs l.normal) l.total l.constraint-iterator
      (sum_by (constraint_pairs l.normal) l.constraints);
  small : sum_by constraint_total l.constraint-iterator < 2 ^ 100;
}
