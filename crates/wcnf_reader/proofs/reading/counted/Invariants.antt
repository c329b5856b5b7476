use Rattle.wcnf_reader.proofs.Common.{◌≡◌, ◌+◌, ◌-◌, ◌*◌, ◌^◌, ◌≤◌, [], length, problem_total, blank, with_variables, clauses_at, header_of}
use Rattle.wcnf_reader.proofs.Clauses.{read_into}
use Rattle.wcnf_reader.proofs.reading.counted.Given as goal

-- the problem so far, with the clauses that are left, is the problem of all; and each clause took a
-- word at least, and added less than 2 ^ 64 to the numbers of the problem
abbrev pub invariant-loop : goal.invariant-loop
invariant-loop l = record {
  read : read_into l.fn.start.top l.problem
      (clauses_at (l.fn.start.clauses - l.counter) (header_of l.fn.start) l.fn.end l.words)
      ≡ read_into l.fn.start.top (with_variables blank l.fn.start.variables)
      (clauses_at l.fn.start.clauses (header_of l.fn.start) l.fn.end l.fn.words);
  variables : l.problem.variables ≡ l.fn.start.variables;
  small : problem_total l.problem + length l.words * 2 ^ 64 ≤ length l.fn.words * 2 ^ 64;
  emptied : l.literals.items ≡ [];
}
