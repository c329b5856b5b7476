use Rattle.local_penalties.proofs.Common.{arith, elements, length, ◌/◌, IsNormalProduct, product_rise}
use Rattle.local_penalties.proofs.Openings.{sum-left, all-left}
use Rattle.local_penalties.proofs.opening.add_product_rises.Goals as goal

pub loop-product-preserved : goal.loop-product-preserved
loop-product-preserved c =
    let h = c.loop-product.invariant in
    let t = c.in-Some.product in
    let steps = c.in-Some.ensures.steps in
    record {
      places = grind (arith, elements, h.places);
      normal = all-left (IsNormalProduct (length c.args.numbers.now / 2)) t _ _ steps h.normal;
      sums = λ k. sum-left (product_rise k) t _ _ _ _ _ steps (c.add_product_rise.ensures k) (h.sums k);
    }
