use Rattle.local_penalties.proofs.Common.{◌≡◌, ◌+◌, ◌≤◌, ◌<◌, ◌^◌, false, length, drop, Literal, constraint_charges, is_marked, number_of}
use Rattle.local_penalties.proofs.rounds.enter_constraints.Given as goal

-- what the constraints that are left add is still that by the old penalties
abbrev pub invariant-loop-i : goal.invariant-loop-i
invariant-loop-i l = record {
  places : length l.numbers ≡ length l.fn.numbers;
  marks_places : length l.marks ≡ length l.fn.numbers;
  unmarked : (k : Literal) → is_marked l.marks k ≡ false;
  counted : (k : Literal) → constraint_charges l.whole (drop l.i l.was) (drop l.i l.constraints) k ≤ number_of l.numbers k;
  room : (k : Literal) → number_of l.numbers k + constraint_charges l.whole (drop l.i l.is) (drop l.i l.constraints) k < 2 ^ 128;
  sums : (k : Literal) → number_of l.numbers k + constraint_charges l.whole (drop l.i l.is) (drop l.i l.constraints) k
      + constraint_charges l.whole l.was l.constraints k
      ≡ number_of l.fn.numbers k + constraint_charges l.whole l.is l.constraints k
      + constraint_charges l.whole (drop l.i l.was) (drop l.i l.constraints) k;
}
