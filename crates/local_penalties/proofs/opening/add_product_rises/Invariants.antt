use Rattle.local_penalties.proofs.Common.{◌≡◌, ◌+◌, ◌/◌, All, length, sum_by, Literal, IsNormalProduct, product_rise, number_of}
use Rattle.local_penalties.proofs.opening.add_product_rises.Given as goal

-- the numbers so far, and the rises of the products that are left, are all
abbrev pub invariant-loop-product : goal.invariant-loop-product
invariant-loop-product l = record {
  places : length l.numbers ≡ length l.fn.numbers;
  normal : All (IsNormalProduct (length l.fn.numbers / 2)) l.product-iterator;
  sums : (k : Literal) → number_of l.numbers k + sum_by (product_rise k) l.product-iterator
      ≡ number_of l.fn.numbers k + sum_by (product_rise k) l.fn.products;
}
