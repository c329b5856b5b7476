use Rattle.std.proofs.Common.{◌≡◌, ◌≤◌}
use Rattle.problem_form.specs.Problems.{problem_total}
use Rattle.library_example.proofs.rooms.Given as goal

-- each room adds 1 at most to the sizes
abbrev pub invariant-loop-number : goal.invariant-loop-number
invariant-loop-number l = record {
  rooms : l.problem.variables ≡ 7;
  total : problem_total l.problem ≤ l.number;
}
