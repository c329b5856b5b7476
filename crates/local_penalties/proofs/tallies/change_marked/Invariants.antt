use Rattle.local_penalties.proofs.Common.{◌≡◌, ◌+◌, ◌-◌, ◌<◌, ◌≤◌, ◌^◌, ◌&&◌, true, not, cond, length, Literal, meets, number_of, is_marked, AreWithin}
use Rattle.local_penalties.proofs.tallies.change_marked.Given as goal

-- with those of the marked literals that are left changed, the numbers are the changed ones
abbrev pub invariant-loop-literal : goal.invariant-loop-literal
invariant-loop-literal l = record {
  places : length l.numbers ≡ length l.fn.numbers;
  marks_places : length l.marks ≡ length l.fn.numbers;
  within : AreWithin (length l.fn.numbers) l.literal-iterator;
  room : (k : Literal) → is_marked l.marks k ≡ true
      → (l.minus ≤ number_of l.numbers k) × (number_of l.numbers k + l.plus < 2 ^ 128);
  changed : (k : Literal)
      → cond (is_marked l.marks k && meets l.turned l.literal-iterator k)
      (number_of l.numbers k - l.minus + l.plus) (number_of l.numbers k)
      ≡ cond (is_marked l.fn.marks k && meets l.turned l.fn.literals k)
      (number_of l.fn.numbers k - l.minus + l.plus) (number_of l.fn.numbers k);
  marked : (k : Literal) → (is_marked l.marks k && not (meets l.turned l.literal-iterator k))
      ≡ (is_marked l.fn.marks k && not (meets l.turned l.fn.literals k));
}
