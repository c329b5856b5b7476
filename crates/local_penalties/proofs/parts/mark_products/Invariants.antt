use Rattle.local_penalties.proofs.Common.{◌≡◌, ◌||◌, length, Literal, moves_sum, is_marked, HavePlaces}
use Rattle.local_penalties.proofs.parts.mark_products.Given as goal

-- the marks, and those of the products that are left, are all
abbrev pub invariant-loop-product : goal.invariant-loop-product
invariant-loop-product l = record {
  places : length l.marks ≡ length l.fn.marks;
  within : HavePlaces (length l.fn.marks) l.product-iterator;
  marked : (k : Literal) → (is_marked l.marks k || moves_sum l.up l.product-iterator k)
      ≡ (is_marked l.fn.marks k || moves_sum l.up l.fn.products k);
}
