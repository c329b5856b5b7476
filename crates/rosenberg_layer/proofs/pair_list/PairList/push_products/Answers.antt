use Rattle.rosenberg_layer.proofs.Common.{fold, take, ◌<◌, arith, length, ap, ◌∙◌, sym, fold_more, get_or_from_slice_get, with_product}
use Rattle.rosenberg_layer.proofs.pair_list.PairList.push_products.Goals as goal

pub loop-index-preserved : goal.loop-index-preserved
loop-index-preserved c =
    let pairs = c.args.self.now in
    let i = c.loop-index.index in
    let pair = c.at.result in
    let so_far = fold with_product c.args.bits.now.items (take i pairs) in
    let inside : i < length pairs = omega (arith, c.loop-index-test.true, c.len-index-end.ensures) in
    c.in_ok-push_product.ensures ∙ ap (λ z. with_product z pair) c.loop-index.invariant
    ∙ ap (λ p. with_product so_far p) (sym (get_or_from_slice_get pairs i pair pair c.at.ensures))
    ∙ sym (fold_more with_product c.args.bits.now.items pairs i pair inside)
