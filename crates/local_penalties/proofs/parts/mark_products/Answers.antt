use Rattle.local_penalties.proofs.Common.{◌∙◌, arith, elements}
use Rattle.local_penalties.proofs.Hurting.{product-within, products-within, products-marked}
use Rattle.local_penalties.proofs.parts.mark_products.Goals as goal

pub mark_product-requires : goal.mark_product-requires
mark_product-requires c =
    let h = c.loop-product.invariant in
    rw h.places (product-within _ c.in-Some.product _ _ c.in-Some.ensures.steps h.within)

pub loop-product-preserved : goal.loop-product-preserved
loop-product-preserved c =
    let h = c.loop-product.invariant in
    let t = c.in-Some.product in
    record {
      places = grind (arith, elements, h.places);
      within = products-within _ t _ _ c.in-Some.ensures.steps h.within;
      marked = λ k. products-marked _ _ c.args.up t _ _ k c.in-Some.ensures.steps (c.mark_product.ensures k)
          ∙ h.marked k;
    }
