use Rattle.monomial_layer.proofs.Common.{ap, w128, to_z-of_z, drop_all, pair_terms, rest_room}
use Rattle.term_table.proofs.Filling.{rest_all, rest_more}
use Rattle.monomial_layer.proofs.Adding.{pairs_left}
use Rattle.monomial_layer.proofs.replace.add_pairs.Goals as goal

pub add_with_each-requires : goal.add_with_each-requires
add_with_each-requires g c =
    let back = to_z-of_z w128 c.args.coefficient c.ranges.coefficient in
    let so_far = rw back at c.loop-i.invariant in
    rw back (rest_room g.G.Gather.takes g.G.Gather.holds c.args.terms.now c.loop-i.terms _ _ _ _
    (pairs_left c.args.literals.now c.loop-i.i _ c.args.coefficient c.loop-i-test.true) so_far c.requires)

pub loop-i-preserved : goal.loop-i-preserved
loop-i-preserved g c =
    let back = to_z-of_z w128 c.args.coefficient c.ranges.coefficient in
    let so_far = rw back at c.loop-i.invariant in
    let made = rw back at c.in_ok-add_with_each.ensures in
    rw back
    (rest_more g.G.Gather.takes g.G.Gather.holds c.args.terms.now c.loop-i.terms c.add_with_each.new.terms _ _ _ _
    (pairs_left c.args.literals.now c.loop-i.i _ c.args.coefficient c.loop-i-test.true) made so_far)

pub returns : goal.returns
returns g c =
    rest_all _ _ _ _ _ _ (ap (λ ls. pair_terms ls c.args.coefficient) (drop_all _ _ c.loop-i-test.false))
    (rw (to_z-of_z w128 c.args.coefficient c.ranges.coefficient) at c.loop-i.invariant)
