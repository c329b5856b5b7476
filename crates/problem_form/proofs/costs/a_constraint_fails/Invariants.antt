use Rattle.problem_form.proofs.Common.{◌≡◌, ◌<◌, ◌^◌, list_any, sum_by, constraint_total, fails}
use Rattle.problem_form.proofs.costs.a_constraint_fails.Given as goal

-- a constraint that is left fails where one does
abbrev pub invariant-loop-constraint : goal.invariant-loop-constraint
invariant-loop-constraint l = record {
  rest : list_any (fails l.x) l.constraint-iterator ≡ list_any (fails l.x) l.constraints;
  small : sum_by constraint_total l.constraint-iterator < 2 ^ 100;
}
