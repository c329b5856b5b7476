use Rattle.std.proofs.Common.{◌+◌, ◌*◌, ◌≤◌, ◌^◌}
use Rattle.problem_form.specs.Problems.{problem_total}
use Rattle.optimum_tests.proofs.orders.add_row.Given as goal

-- each weight adds less than 2^7 to the sizes
abbrev pub invariant-loop-second : goal.invariant-loop-second
invariant-loop-second l =
    problem_total l.problem ≤ problem_total l.initial.problem + l.second * 2 ^ 7
