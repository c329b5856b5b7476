use Rattle.std.proofs.Common.{◌*◌, ◌≤◌, ◌^◌}
use Rattle.problem_form.specs.Problems.{problem_total}
use Rattle.optimum_tests.proofs.orders.add_rows.Given as goal

-- each row adds less than 2^39 to the sizes
abbrev pub invariant-loop-first : goal.invariant-loop-first
invariant-loop-first l = problem_total l.problem ≤ l.first * 2 ^ 39
