use Rattle.local_penalties.proofs.Common.{◌≡◌, ◌+◌, ◌≤◌, ◌<◌, ◌^◌, length, drop, Literal, clause_charges, number_of}
use Rattle.local_penalties.proofs.rounds.enter_clauses.Given as goal

-- what the clauses that are left add is still that by the old penalties
abbrev pub invariant-loop-i : goal.invariant-loop-i
invariant-loop-i l = record {
  places : length l.numbers ≡ length l.fn.numbers;
  counted : (k : Literal) → clause_charges l.whole (drop l.i l.was) (drop l.i l.clauses) k ≤ number_of l.numbers k;
  room : (k : Literal) → number_of l.numbers k + clause_charges l.whole (drop l.i l.is) (drop l.i l.clauses) k < 2 ^ 128;
  sums : (k : Literal) → number_of l.numbers k + clause_charges l.whole (drop l.i l.is) (drop l.i l.clauses) k
      + clause_charges l.whole l.was l.clauses k
      ≡ number_of l.fn.numbers k + clause_charges l.whole l.is l.clauses k
      + clause_charges l.whole (drop l.i l.was) (drop l.i l.clauses) k;
}
