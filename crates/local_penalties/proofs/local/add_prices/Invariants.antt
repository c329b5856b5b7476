use Rattle.local_penalties.proofs.Common.{◌≡◌, ◌++◌, ◌-◌, length, map, number_of, turned_literal, AreWithin}
use Rattle.local_penalties.proofs.local.add_prices.Given as goal

-- what is there so far, and the prices of the literals that are left, is all
abbrev pub invariant-loop-literal : goal.invariant-loop-literal
invariant-loop-literal l = record {
  within : AreWithin (length l.numbers) l.literal-iterator;
  items : l.buffer.items ++ map (λ m. number_of l.numbers m - l.own) (map (turned_literal l.turned) l.literal-iterator)
      ≡ l.fn.buffer.items ++ map (λ m. number_of l.numbers m - l.own) (map (turned_literal l.turned) l.fn.literals);
}
