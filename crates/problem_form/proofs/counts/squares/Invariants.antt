use Rattle.problem_form.proofs.Lemmas.{◌<◌, ◌*◌, ◌^◌, sum_by, reach, constraint_total, Answered}
use Rattle.problem_form.proofs.counts.squares.Given as goal

-- the sum so far and that over the constraints that are left are the whole
abbrev pub invariant-loop-constraint : goal.invariant-loop-constraint
invariant-loop-constraint l = record {
  counted : Answered (λ k. l.penalty * reach k ^ 2) l.total l.constraint-iterator
      (sum_by (λ k. l.penalty * reach k ^ 2) l.constraints);
  small : sum_by constraint_total l.constraint-iterator < 2 ^ 100;
}
