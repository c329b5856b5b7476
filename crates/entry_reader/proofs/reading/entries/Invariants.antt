use Rattle.entry_reader.proofs.Common.{◌≡◌, ◌+◌, ◌*◌, ◌^◌, ◌≤◌, length, problem_total, blank, with_variables, entries_at}
use Rattle.entry_reader.proofs.Puttings.{read_into}
use Rattle.entry_reader.proofs.reading.entries.Given as goal

-- the problem so far, with the entries that are left, is the problem of all; and each entry took a
-- word at least, and added less than 2 ^ 68 to the numbers of the problem
abbrev pub invariant-loop-first : goal.invariant-loop-first
invariant-loop-first l = record {
  read : read_into l.layout l.problem (entries_at l.end l.to_come l.words)
      ≡ read_into l.layout (with_variables blank l.fn.counts.nodes)
      (entries_at l.end l.fn.counts l.fn.words);
  variables : l.problem.variables ≡ l.fn.counts.nodes;
  nodes : l.to_come.nodes ≡ l.fn.counts.nodes;
  small : problem_total l.problem + length l.words * 2 ^ 68 ≤ length l.fn.words * 2 ^ 68;
}

abbrev pub decreases-loop-first : goal.decreases-loop-first
decreases-loop-first l = length l.words
