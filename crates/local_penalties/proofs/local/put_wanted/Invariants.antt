use Rattle.local_penalties.proofs.Common.{◌≡◌, ◌++◌, ◌-◌, length, number_of, wanted_prices, HavePlaces}
use Rattle.local_penalties.proofs.local.put_wanted.Given as goal

-- the prices so far, and those of the products that are left, are all
abbrev pub invariant-loop-product : goal.invariant-loop-product
invariant-loop-product l = record {
  within : HavePlaces (length l.numbers) l.product-iterator;
  items : l.buffer.items ++ wanted_prices l.up (λ m. number_of l.numbers m - l.own) l.product-iterator
      ≡ wanted_prices l.up (λ m. number_of l.numbers m - l.own) l.fn.products;
}
