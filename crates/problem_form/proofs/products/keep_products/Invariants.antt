use Rattle.problem_form.proofs.Common.{◌≡◌, ◌++◌, length, take, flat_map, kept_product}
use Rattle.problem_form.proofs.products.keep_products.Given as goal

-- what is kept so far, and of the products that are left, is the whole, after what was there before
abbrev pub invariant-loop-product : goal.invariant-loop-product
invariant-loop-product l = record {
  so_far : l.kept ++ flat_map kept_product l.product-iterator
      ≡ l.fn.kept ++ flat_map kept_product l.products;
  before : take (length l.fn.kept) l.kept ≡ l.fn.kept;
}
