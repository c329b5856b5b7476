use Rattle.local_penalties.proofs.Common.{◌≡◌, ◌+◌, ◌<◌, ◌≤◌, ◌^◌, true, length, Literal, meets, number_of, AreWithin, each_once}
use Rattle.local_penalties.proofs.Places.{number_after}
use Rattle.local_penalties.proofs.tallies.change_each.Given as goal

-- with those of the literals that are left changed, the numbers are the changed ones
abbrev pub invariant-loop-literal : goal.invariant-loop-literal
invariant-loop-literal l = record {
  places : length l.numbers ≡ length l.fn.numbers;
  within : AreWithin (length l.fn.numbers) l.literal-iterator;
  apart : each_once l.literal-iterator ≡ true;
  room : (k : Literal) → meets l.turned l.literal-iterator k ≡ true
      → (l.minus ≤ number_of l.numbers k) × (number_of l.numbers k + l.plus < 2 ^ 128);
  changed : (k : Literal) → number_after l.numbers l.turned l.literal-iterator l.plus l.minus k
      ≡ number_after l.fn.numbers l.turned l.fn.literals l.plus l.minus k;
}
