use Rattle.local_penalties.proofs.Common.{◌∙◌, ap, arith, elements, moves_sum}
use Rattle.local_penalties.proofs.Hurting.{product-within, products-within, products-unmarked, changed-twice, still-may}
use Rattle.local_penalties.proofs.parts.change_products.Goals as goal

pub change_product-requires-clause-lengths : goal.change_product-requires-clause-lengths
change_product-requires-clause-lengths c =
    grind (arith, c.loop-product.invariant.places, c.loop-product.invariant.marks_places)

pub change_product-requires-clause-within : goal.change_product-requires-clause-within
change_product-requires-clause-within c =
    let h = c.loop-product.invariant in
    rw h.places (product-within _ c.in-Some.product _ _ c.in-Some.ensures.steps h.within)

pub change_product-requires-clause-room : goal.change_product-requires-clause-room
change_product-requires-clause-room c = c.loop-product.invariant.room

pub loop-product-preserved : goal.loop-product-preserved
loop-product-preserved c =
    let h = c.loop-product.invariant in
    let t = c.in-Some.product in
    let steps = c.in-Some.ensures.steps in
    record {
      places = grind (arith, elements, h.places);
      marks_places = grind (arith, elements, h.marks_places);
      within = products-within _ t _ _ steps h.within;
      room = λ k. still-may _ _ _ _ _ c.args.plus c.args.minus k (c.change_product.ensures.marks k)
          (c.change_product.ensures.numbers k) (h.room k);
      changed = λ k. changed-twice _ _ _ _ _ _ _ c.args.plus c.args.minus (c.change_product.ensures.marks k)
          (ap (λ ts. moves_sum c.args.up ts k) steps) (c.change_product.ensures.numbers k) ∙ h.changed k;
      marked = λ k. products-unmarked _ _ c.args.up t _ _ k steps (c.change_product.ensures.marks k) ∙ h.marked k;
    }
