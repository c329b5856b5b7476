use Rattle.local_penalties.proofs.Common.{◌≡◌, ◌+◌, ◌-◌, ◌&&◌, true, not, cond, length, Literal, moves_sum, number_of, is_marked, HavePlaces, MayChange}
use Rattle.local_penalties.proofs.parts.change_products.Given as goal

-- with those of the marked literals that are left changed, the numbers are the changed ones
abbrev pub invariant-loop-product : goal.invariant-loop-product
invariant-loop-product l = record {
  places : length l.numbers ≡ length l.fn.numbers;
  marks_places : length l.marks ≡ length l.fn.numbers;
  within : HavePlaces (length l.fn.numbers) l.product-iterator;
  room : (k : Literal) → is_marked l.marks k ≡ true → MayChange l.numbers l.plus l.minus k;
  changed : (k : Literal)
      → cond (is_marked l.marks k && moves_sum l.up l.product-iterator k)
      (number_of l.numbers k - l.minus + l.plus) (number_of l.numbers k)
      ≡ cond (is_marked l.fn.marks k && moves_sum l.up l.fn.products k)
      (number_of l.fn.numbers k - l.minus + l.plus) (number_of l.fn.numbers k);
  marked : (k : Literal) → (is_marked l.marks k && not (moves_sum l.up l.product-iterator k))
      ≡ (is_marked l.fn.marks k && not (moves_sum l.up l.fn.products k));
}
