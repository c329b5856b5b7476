use Rattle.std.proofs.Common.{◌≡◌, ◌*◌, ◌≤◌, ◌^◌}
use Rattle.problem_form.specs.Problems.{problem_total}
use Rattle.optimum_tests.proofs.drawn.add_weights.Given as goal

-- each weight adds less than 2^7 to the sizes
abbrev pub invariant-loop-k : goal.invariant-loop-k
invariant-loop-k l = record {
  width : l.problem.variables ≡ l.fn.problem.variables;
  total : problem_total l.problem ≤ l.k * 2 ^ 7;
}
