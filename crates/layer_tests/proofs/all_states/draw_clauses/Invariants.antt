use Rattle.std.proofs.Common.{◌*◌, ◌≤◌, ◌^◌}
use Rattle.problem_form.specs.Problems.{problem_total}
use Rattle.layer_tests.proofs.all_states.draw_clauses.Given as goal

-- each clause adds less than 2^64 to the sizes
abbrev pub invariant-loop : goal.invariant-loop
invariant-loop l = problem_total l.problem ≤ l.counter * 2 ^ 64
