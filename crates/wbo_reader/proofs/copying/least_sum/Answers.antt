use Rattle.wbo_reader.proofs.Lemmas.{rules, ◌≡◌, ◌+◌, ◌+ℤ◌, ◌∙◌, ◌∷◌, ap, to_z, of_z, unsigned_abs, arith, w128, ints, sum_by-cons, size-plus, Product, products_total, least_part, least_sum, least_part-size, least_sum-cons}
use Rattle.wbo_reader.proofs.copying.least_sum.Goals as goal

pub loop-product-preserved : goal.loop-product-preserved
loop-product-preserved c =
    let t : Product = c.in-Some.product in
    let rest = c.next.new.self in
    let h = c.loop-product.invariant in
    let sum = to_z w128 c.loop-product.sum-bits in
    let k = least_part t.coefficient in
    let left : c.loop-product.product-iterator ≡ t ∷ rest = search rules in
    let total : least_sum c.loop-product.product-iterator ≡ k +ℤ least_sum rest =
    ap least_sum left ∙ least_sum-cons t rest in
    let size : products_total c.loop-product.product-iterator
    ≡ unsigned_abs t.coefficient + products_total rest =
    ap products_total left ∙ sum_by-cons (λ (u : Product). unsigned_abs u.coefficient) t rest in
    let small = least_part-size t.coefficient in
    let one : to_z w128 (of_z w128 c.least_part-sum.result) ≡ k = search rules in
    let value : to_z w128 (of_z w128 (sum +ℤ to_z w128 (of_z w128 c.least_part-sum.result)))
    ≡ sum +ℤ k =
    omega (arith, ints, one, size, small, h.small) in
    record {
      so_far = rw value (omega (arith, ints, total, h.so_far));
      small = rw value (omega (arith, size, small, size-plus sum k, h.small));
    }
