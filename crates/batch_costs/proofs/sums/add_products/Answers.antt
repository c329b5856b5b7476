use Rattle.batch_costs.proofs.Common.{◌≡◌, ℤ, pos, get_or, ap, ◌∙◌, unsigned_abs, List, length, to_z, of_z, rules, w128, to_z-of_z, get_or-replicate, if_so, Product, product_value, product-size, assignment, is_marked}
use Rattle.batch_costs.proofs.MarkedWords.{sums_begin, sums_left}
use Rattle.batch_costs.proofs.sums.add_products.Goals as goal

pub loop-product-init : goal.loop-product-init
loop-product-init c = record {
  places = ap length c.requires.zero;
  sums = λ k below.
      let none = ap (λ (sums : List ℤ). get_or sums k (pos 0)) c.requires.zero ∙ get_or-replicate 64 k (pos 0) (pos 0) below in
      sums_begin (product_value (assignment c.args.words.now k)) (λ (t : Product). unsigned_abs t.coefficient)
      c.into_iter-product-iterator.result c.args.products _ c.into_iter-product-iterator.ensures.into_iter_gives none;
}

pub loop-product-preserved : goal.loop-product-preserved
loop-product-preserved c = record {
  places = search rules;
  sums = λ k below.
      let x = assignment c.args.words.now k in
      let product = c.product.inside in
      let number : to_z w128 (of_z w128 product.coefficient) ≡ product.coefficient =
      to_z-of_z w128 product.coefficient (search rules) in
      let value =
      ap (if_so (is_marked c.marks_of_all.result k)) number
      ∙ ap (λ b. if_so b product.coefficient) (c.marks_of_all.ensures k below)
      ∙ ap (product_value x) c.product.view_is in
      sums_left (product_value x) (λ (t : Product). unsigned_abs t.coefficient)
      c.loop-product.product-iterator c.next.new.self c.in-Some.product _ _ _ _ _
      c.in-Some.ensures.steps value (product-size x c.in-Some.product) (c.add_marked.ensures k below)
      (c.loop-product.invariant.sums k below);
}
