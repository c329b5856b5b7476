use Rattle.local_penalties.proofs.Common.{◌≡◌, ◌||◌, length, Literal, meets, is_marked, AreWithin}
use Rattle.local_penalties.proofs.tallies.mark_each.Given as goal

-- the marks, and those of the literals that are left, are all
abbrev pub invariant-loop-literal : goal.invariant-loop-literal
invariant-loop-literal l = record {
  places : length l.marks ≡ length l.fn.marks;
  within : AreWithin (length l.fn.marks) l.literal-iterator;
  marked : (k : Literal) → (is_marked l.marks k || meets l.turned l.literal-iterator k)
      ≡ (is_marked l.fn.marks k || meets l.turned l.fn.literals k);
}
