use Rattle.wcnf_reader.proofs.Common.{◌≡◌, ◌+◌, ◌*◌, ◌^◌, ◌≤◌, [], length, problem_total, blank, clauses_to_end}
use Rattle.wcnf_reader.proofs.Headerless.{read_into}
use Rattle.wcnf_reader.proofs.reading.headerless.Given as goal

-- the problem so far, with the clauses that are left, is the problem of all; and each clause took a
-- word at least, and added less than 2 ^ 64 to the numbers of the problem
abbrev pub invariant-loop-first : goal.invariant-loop-first
invariant-loop-first l = record {
  read : read_into l.problem (clauses_to_end l.end l.words)
      ≡ read_into blank (clauses_to_end l.end l.fn.words);
  small : problem_total l.problem + length l.words * 2 ^ 64 ≤ length l.fn.words * 2 ^ 64;
  emptied : l.literals.items ≡ [];
}

abbrev pub decreases-loop-first : goal.decreases-loop-first
decreases-loop-first l = length l.words
