use Rattle.rosenberg_layer.proofs.Common.{◌≡◌, ◌++◌, arith, ap, length, List, ◌∙◌, refl, filter, IfOk-weaker, Term, kept_at_once, is_long, pairs_of, run, is_short, ties_of, weights, moved_of}
use Rattle.rosenberg_layer.proofs.Turns.{excess-size, width-pairs}
use Rattle.rosenberg_layer.proofs.Finish.{width-le, made-image, adds-fit}
use Rattle.rosenberg_layer.proofs.rosenberg.reduced.Goals as goal

pub gathered-requires-clause-narrow : goal.gathered-requires-clause-narrow
gathered-requires-clause-narrow c =
    let t = c.args.table.now.content in
    let k = c.excess.result in
    omega (arith, width-pairs k t, ap length c.in_ok-made.ensures.pairs, width-le k t, excess-size t.terms)

pub gathered-requires-clause-additions : goal.gathered-requires-clause-additions
gathered-requires-clause-additions c =
    let t = c.args.table.now.content in
    let count : c.len.result ≡ length (pairs_of c.excess.result t) =
    omega (arith, c.len.ensures, ap length c.in_ok-made.ensures.pairs) in
    let adds = filter is_short t.terms ++ moved_of c.width-width.result c.in_ok-made.made in
    adds-fit t adds (filter is_long (run c.excess.result t).terms) c.width-width.result c.excess.result
    c.len.result c.in_ok-made.ensures.kept.terms c.width-width.ensures count c.in_ok-made.ensures.parts
    c.requires.total

pub returns-clause-made : goal.returns-clause-made
returns-clause-made c =
    let t = c.args.table.now.content in
    let made = c.in_ok-made.made in
    let adds : List Term =
    made.low.items ++ ties_of c.width-width.result made.pairs made.weights.items in
    let base = filter is_short t.terms in
    let count : c.len.result ≡ length (pairs_of c.excess.result t) =
    omega (arith, c.len.ensures, ap length c.in_ok-made.ensures.pairs) in
    IfOk-weaker c.gathered.result _ _
    (λ quadratic new.
    new ∙ ap kept_at_once
    (made-image t _ (base ++ adds) (filter is_long (run c.excess.result t).terms)
    c.width-width.result c.excess.result c.len.result (weights t.terms)
    c.in_ok-made.ensures.kept.terms c.excess.ensures c.width-width.ensures count
    c.in_ok-made.ensures.parts refl))
    c.gathered.ensures
