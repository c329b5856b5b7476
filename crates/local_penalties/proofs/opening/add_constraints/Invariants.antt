use Rattle.local_penalties.proofs.Common.{◌≡◌, ◌+◌, ◌/◌, [], false, All, length, Literal, IsNormalProduct, constraint_charges, is_marked, number_of}
use Rattle.local_penalties.proofs.opening.add_constraints.Given as goal

-- the numbers so far, and what the constraints that are left add, are all
abbrev pub invariant-loop-constraint : goal.invariant-loop-constraint
invariant-loop-constraint l = record {
  places : length l.numbers ≡ length l.fn.numbers;
  marks_places : length l.marks ≡ length l.fn.numbers;
  normal : All (λ k. All (IsNormalProduct (length l.fn.numbers / 2)) k.products) l.constraint-iterator;
  unmarked : (k : Literal) → is_marked l.marks k ≡ false;
  sums : (k : Literal) → number_of l.numbers k + constraint_charges l.whole [] l.constraint-iterator k
      ≡ number_of l.fn.numbers k + constraint_charges l.whole [] l.constraints k;
}
