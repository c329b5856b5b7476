use Rattle.local_penalties.proofs.Common.{◌≡◌, ◌+◌, ◌≤◌, length, drop, count_past}
use Rattle.local_penalties.proofs.greatest.count_past.Given as goal

-- with those so far, the numbers that are left pass what is left of the room as all pass the room
abbrev pub invariant-loop-i : goal.invariant-loop-i
invariant-loop-i l = record {
  within : l.i ≤ length l.numbers;
  count : l.i + count_past l.left (drop l.i l.numbers) ≡ count_past l.room l.numbers;
}
