use Rattle.opb_reader.proofs.Common.{◌≡◌, ◌+◌, ◌*◌, ◌^◌, ◌≤◌, [], length, problem_total, constraints_read}
use Rattle.opb_reader.proofs.reading.constraints.Given as goal

-- the problem so far, with the constraints that are left, is the problem of all; and each took a
-- word at least, and added less than 2 ^ 64 for each word to the numbers of the problem
abbrev pub invariant-loop-first : goal.invariant-loop-first
invariant-loop-first l = record {
  read : constraints_read l.problem l.end l.words ≡ constraints_read l.fn.problem l.end l.fn.words;
  small : problem_total l.problem + length l.words * 2 ^ 64
      ≤ problem_total l.fn.problem + length l.fn.words * 2 ^ 64;
  emptied : l.list.items ≡ [];
}

abbrev pub decreases-loop-first : goal.decreases-loop-first
decreases-loop-first l = length l.words
