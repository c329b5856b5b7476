use Rattle.rosenberg_layer.proofs.Common.{ap, ◌∙◌, sym, false, fold_more, get_or, with_product, Literal, Pair}
use Rattle.rosenberg_layer.proofs.rosenberg.push_products.Goals as goal

pub loop-pair-preserved : goal.loop-pair-preserved
loop-pair-preserved c =
    let pairs = c.args.pairs.now in
    let i = c.loop-pair.pair-index in
    let none : Literal = record { variable = 0; negated = false } in
    let pair : Pair = get_or pairs i (none, none) in
    c.in_ok-push_product.ensures ∙ ap (λ z. with_product z pair) c.loop-pair.invariant
    ∙ sym (fold_more with_product c.args.bits.now.items pairs i (none, none) c.loop-pair-test.true)
