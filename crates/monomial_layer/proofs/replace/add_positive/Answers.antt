use Rattle.monomial_layer.proofs.Common.{arith, length, refl, w128, to_z-of_z, on_ok_weaker, terms_total-append, fills_more, room_first, room_next, node_terms, nodes_for, pair_terms, positive_terms}
use Rattle.monomial_layer.proofs.replace.add_positive.Goals as goal

pub add_pairs-requires : goal.add_pairs-requires
add_pairs-requires g c =
    let ls = c.args.literals.now in
    let z = c.args.coefficient in
    rw (to_z-of_z w128 z c.ranges.coefficient)
    (room_first g.G.Gather.takes c.args.terms.now (positive_terms ls z c.args.next) (pair_terms ls z)
    (node_terms ls z c.args.next (nodes_for (length ls))) refl c.requires.room)

pub add_nodes-requires-clause-room : goal.add_nodes-requires-clause-room
add_nodes-requires-clause-room g c =
    let ls = c.args.literals.now in
    let back = to_z-of_z w128 _ c.ranges.coefficient in
    let made = rw back at c.in_ok-add_pairs.ensures in
    rw back (room_next _ _ _ _ _ _ _ refl made c.requires.room)

pub add_nodes-requires-clause-small : goal.add_nodes-requires-clause-small
add_nodes-requires-clause-small g c =
    rw (to_z-of_z w128 _ c.ranges.coefficient) (omega (arith, c.requires.small, terms_total-append))

pub returns : goal.returns
returns g c =
    let back = to_z-of_z w128 _ c.ranges.coefficient in
    let made = rw back at c.in_ok-add_pairs.ensures in
    on_ok_weaker _ (fills_more _ _ _ _ _ _ _ made) (rw back at c.add_nodes.ensures)
