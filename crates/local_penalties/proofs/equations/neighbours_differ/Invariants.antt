use Rattle.local_penalties.proofs.Common.{◌≡◌, ◌-◌, ◌≤◌, drop, neighbours_differ}
use Rattle.local_penalties.proofs.equations.neighbours_differ.Given as goal

-- from the last number on, neighbours differ where all do
abbrev pub invariant-loop-i : goal.invariant-loop-i
invariant-loop-i l = record {
  some : 1 ≤ l.i;
  left : neighbours_differ (drop (l.i - 1) l.numbers) ≡ neighbours_differ l.numbers;
}
