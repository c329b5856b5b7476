use Rattle.rosenberg_layer.proofs.Common.{◌≡◌, ◌+◌, ◌-◌, ◌∙◌, ap, arith, fold, rules, List, Bool, image, excess, with_product, width-run-le}
use Rattle.rosenberg_layer.proofs.Finish.{width-le, all-pairs}
use Rattle.rosenberg_layer.proofs.rosenberg.extended.Goals as goal

pub overflow_sub-bits : goal.overflow_sub-bits
overflow_sub-bits c =
    let t = c.args.table.now.content in
    omega (arith, c.requires.source, c.requires.target, width-run-le (excess t.terms) t)

pub pairs_of-requires-clause-narrow : goal.pairs_of-requires-clause-narrow
pairs_of-requires-clause-narrow c = omega (arith, width-run-le, width-le)

pub returns : goal.returns
returns c =
    let t = c.args.table.now.content in
    let x : List Bool = c.args.x.now in
    let k = c.args.bits - c.args.variables in
    let number : (image t).width ≡ t.width + k =
    omega (arith, c.requires.source, c.requires.target, width-run-le (excess t.terms) t) in
    let start : c.in_ok-y.y.items ≡ x = search rules in
    c.in_ok-push_products.ensures ∙ (λ i. fold with_product (start i) (c.deref.ensures.value i))
    ∙ ap (fold with_product x) (c.in_ok-pairs.ensures ∙ all-pairs t k number)
