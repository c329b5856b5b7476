use Rattle.elimination_order.proofs.Common.{◌≡◌, ◌<◌, ℕ, length, at_place}
use Rattle.elimination_order.proofs.numbering.numbers_of.Given as goal

-- the nodes so far have their numbers
abbrev pub invariant-loop-k : goal.invariant-loop-k
invariant-loop-k l = record {
  long : length l.numbers.items ≡ length l.names;
  so_far : (j : ℕ) → j < l.k → at_place l.numbers.items (at_place l.names j) ≡ j;
}
