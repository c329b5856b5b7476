use Rattle.opb_reader.proofs.Common.{◌≡◌, ◌+◌, ◌*◌, ◌^◌, ◌≤◌, [], length, left, problem_total, greatest_index, is_semicolon, sum_at, with_term, put_all}
use Rattle.opb_reader.proofs.sums.objective.Given as goal

-- the problem so far, with the terms that are left, is the problem of all; and each took a word at
-- least, and added less than 2 ^ 64 to the numbers of the problem
abbrev pub invariant-loop-next : goal.invariant-loop-next
invariant-loop-next l = record {
  read : put_all with_term l.problem
      (sum_at greatest_index is_semicolon l.end (left l.next l.words))
      ≡ put_all with_term l.fn.problem (sum_at greatest_index is_semicolon l.end l.fn.words);
  small : problem_total l.problem + length (left l.next l.words) * 2 ^ 64
      ≤ problem_total l.fn.problem + length l.fn.words * 2 ^ 64;
  emptied : l.list.items ≡ [];
}

abbrev pub decreases-loop-next : goal.decreases-loop-next
decreases-loop-next l = length (left l.next l.words)
