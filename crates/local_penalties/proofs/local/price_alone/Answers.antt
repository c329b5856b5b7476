use Rattle.local_penalties.proofs.Common.{arith, number_of}
use Rattle.local_penalties.proofs.Hurting.{products-within}
use Rattle.local_penalties.proofs.LocalSteps.{alone-step}
use Rattle.local_penalties.proofs.local.price_alone.Goals as goal

pub loop-product-preserved : goal.loop-product-preserved
loop-product-preserved c =
    let h = c.loop-product.invariant in
    let t = c.in-Some.product in
    let steps = c.in-Some.ensures.steps in
    record {
      within = products-within _ t _ _ steps h.within;
      least = alone-step (number_of c.args.numbers.now) c.args.below t _ _ _ _ _ steps c.least_by-least.ensures.value h.least;
      small = omega (arith, c.least_by-least.ensures.small, h.small);
    }
