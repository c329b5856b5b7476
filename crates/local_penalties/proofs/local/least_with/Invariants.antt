use Rattle.local_penalties.proofs.Common.{◌≡◌, ◌≤◌, length, map, fold, min, number_of, turned_literal, AreWithin}
use Rattle.local_penalties.proofs.local.least_with.Given as goal

-- the least so far, and of the literals that are left, is that of all
abbrev pub invariant-loop-literal : goal.invariant-loop-literal
invariant-loop-literal l = record {
  within : AreWithin (length l.numbers) l.literal-iterator;
  least : fold min l.found (map (number_of l.numbers) (map (turned_literal l.turned) l.literal-iterator))
      ≡ fold min l.least (map (number_of l.numbers) (map (turned_literal l.turned) l.fn.literals));
  small : l.found ≤ l.least;
}
