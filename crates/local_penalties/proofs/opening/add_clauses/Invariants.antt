use Rattle.local_penalties.proofs.Common.{◌≡◌, ◌+◌, ◌/◌, [], All, length, sum_by, Literal, IsNormalClause, soft_rise, clause_charges, number_of}
use Rattle.local_penalties.proofs.opening.add_clauses.Given as goal

-- the numbers so far, and what the clauses that are left add, are all
abbrev pub invariant-loop-clause : goal.invariant-loop-clause
invariant-loop-clause l = record {
  places : length l.numbers ≡ length l.fn.numbers;
  normal : All (IsNormalClause (length l.fn.numbers / 2)) l.clause-iterator;
  sums : (k : Literal) → number_of l.numbers k
      + (sum_by (soft_rise k) l.clause-iterator + clause_charges l.whole [] l.clause-iterator k)
      ≡ number_of l.fn.numbers k
      + (sum_by (soft_rise k) l.clauses + clause_charges l.whole [] l.clauses k);
}
