use Rattle.monomial_layer.proofs.Common.{nat_tests, ◌<◌, add-one, length, rules, arith, ap, w128, to_z-of_z, Literal, terms_total, fills_more, fills_none, fills_same, room_same, node_term, nodes_for, sym}
use Rattle.monomial_layer.proofs.Adding.{nodes_room}
use Rattle.monomial_layer.proofs.Sizes.{total-more_nodes}
use Rattle.monomial_layer.proofs.replace.add_nodes.Goals as goal

pub loop-place-init : goal.loop-place-init
loop-place-init g c = fills_none g.G.Gather.takes g.G.Gather.holds c.args.terms.now

pub add_node-requires-clause-room : goal.add_node-requires-clause-room
add_node-requires-clause-room g c =
    let ls = c.args.literals.now in
    let back = to_z-of_z w128 c.args.coefficient c.ranges.coefficient in
    let so_far = rw back at c.loop-place.invariant in
    let inside : c.loop-place.place < nodes_for (length ls) = search rules in
    room_same g.G.Gather.takes c.loop-place.terms (node_term ls c.args.coefficient c.node.result c.loop-place.place) _
    (ap (λ z. node_term ls z c.node.result c.loop-place.place) (sym back))
    (nodes_room g.G.Gather.takes g.G.Gather.holds _ _ ls _ c.args.coefficient c.args.next _ _ inside
    c.node.ensures so_far c.requires.room)

pub add_node-requires-clause-small : goal.add_node-requires-clause-small
add_node-requires-clause-small g c =
    let ls = c.args.literals.now in
    let k = c.loop-place.place in
    let back = to_z-of_z w128 c.args.coefficient c.ranges.coefficient in
    let inside : k < nodes_for (length ls) = search rules in
    let more = total-more_nodes ls c.args.coefficient c.args.next k (nodes_for (length ls)) inside in
    let own = ap (λ (l : Literal). terms_total (node_term ls c.args.coefficient l k)) c.node.ensures in
    omega (arith, c.requires.small, more, own, ap (λ z. terms_total (node_term ls z c.node.result k)) back)

pub loop-place-preserved : goal.loop-place-preserved
loop-place-preserved g c =
    rw (add-one c.loop-place.place)
    (fills_more g.G.Gather.takes g.G.Gather.holds c.args.terms.now c.loop-place.terms _ _ _
    c.loop-place.invariant (rw c.node.ensures at c.in_ok-add_node.ensures))

pub returns : goal.returns
returns g c = grind (arith, nat_tests, to_z-of_z, fills_same)
