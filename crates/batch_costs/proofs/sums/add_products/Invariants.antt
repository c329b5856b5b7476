use Rattle.batch_costs.proofs.Common.{◌≡◌, ℕ, ◌<◌, pos, length, get_or, unsigned_abs, Product, product_value, products_total, sum_of, Sums, assignment}
use Rattle.batch_costs.proofs.sums.add_products.Given as goal

-- each sum so far and that of the products that are left are the whole
abbrev pub invariant-loop-product : goal.invariant-loop-product
invariant-loop-product l = record {
  places : length l.sums ≡ 64;
  sums : (k : ℕ) → k < 64
      → Sums (product_value (assignment l.words k)) (λ (t : Product). unsigned_abs t.coefficient)
      (get_or l.sums k (pos 0)) l.product-iterator (sum_of (assignment l.words k) l.fn.products)
      (products_total l.fn.products);
}
