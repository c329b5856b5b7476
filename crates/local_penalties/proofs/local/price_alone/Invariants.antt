use Rattle.local_penalties.proofs.Common.{◌≡◌, ◌≤◌, length, fold, min, true, filter, far, number_of, wanted_prices, HavePlaces}
use Rattle.local_penalties.proofs.Sizes.{suffices}
use Rattle.local_penalties.proofs.local.price_alone.Given as goal

-- the least so far, and of the products that are left, is that of all
abbrev pub invariant-loop-product : goal.invariant-loop-product
invariant-loop-product l = record {
  within : HavePlaces (length l.numbers) l.product-iterator;
  least : fold min l.least (wanted_prices true (number_of l.numbers) (filter (suffices l.below) l.product-iterator))
      ≡ fold min far (wanted_prices true (number_of l.numbers) (filter (suffices l.below) l.fn.products));
  small : l.least ≤ far;
}
