use Rattle.monomial_layer.proofs.Common.{◌∷◌, [], ap, refl, w128, to_z-of_z, drop_all, Literal, Term, fills_as, with_each}
use Rattle.term_table.proofs.Filling.{rest_all}
use Rattle.monomial_layer.proofs.Adding.{each_more, each_room}
use Rattle.monomial_layer.proofs.replace.add_with_each.Goals as goal

pub gather-requires : goal.gather-requires
gather-requires g c =
    let f : Literal → Term = λ l. (c.args.first ∷ l ∷ [], c.args.coefficient) in
    let back = to_z-of_z w128 c.args.coefficient c.ranges.coefficient in
    let so_far = rw back at c.loop-literal.invariant in
    rw back (each_room _ _ _ _ f _ _ _ c.loop-literal-test.true so_far c.requires)

pub loop-literal-preserved : goal.loop-literal-preserved
loop-literal-preserved g c =
    let f : Literal → Term = λ l. (c.args.first ∷ l ∷ [], c.args.coefficient) in
    let back = to_z-of_z w128 c.args.coefficient c.ranges.coefficient in
    let so_far = rw back at c.loop-literal.invariant in
    let one = fills_as g.G.Gather.takes g.G.Gather.holds c.loop-literal.terms c.gather.new.self _ _
    _ _ refl back c.in_ok-gather.ensures.added c.in_ok-gather.ensures.takes in
    rw back (each_more _ _ _ _ f _ _ _ c.loop-literal-test.true so_far _ one)

pub returns : goal.returns
returns g c =
    rest_all _ _ _ _ _ _ (ap (with_each c.args.first c.args.coefficient) (drop_all _ _ c.loop-literal-test.false))
    (rw (to_z-of_z w128 c.args.coefficient c.ranges.coefficient) at c.loop-literal.invariant)
