use Rattle.monomial_layer.proofs.Common.{◌∷◌, ◌*◌, ◌+◌, ◌-◌, ◌^◌, ◌*ℤ◌, ◌∙◌, [], ap, refl, pos, length, arith, rules, w128, to_z-of_z, factor}
use Rattle.monomial_layer.proofs.Adding.{others_room, own_and_others, own_room}
use Rattle.monomial_layer.proofs.Sizes.{node_weight-fits, pair_weight-fits}
use Rattle.monomial_layer.proofs.replace.add_node.Goals as goal

pub node_weight-requires-clause-small : goal.node_weight-requires-clause-small
node_weight-requires-clause-small g c =
    let fits = node_weight-fits c.args.literals.now c.args.coefficient _ c.args.new_node c.args.place 0 (2 ^ 124)
    (ap (λ z. z *ℤ pos (factor (length c.args.literals.now) c.args.place * (2 * c.args.place + 2) - 1))
    (to_z-of_z w128 c.args.coefficient c.ranges.coefficient)) (omega (arith, c.requires.small)) in
    omega (arith, fits)

pub pair_weight-requires-clause-small : goal.pair_weight-requires-clause-small
pair_weight-requires-clause-small g c =
    rw (to_z-of_z w128 c.args.coefficient c.ranges.coefficient)
    (pair_weight-fits c.args.literals.now c.args.coefficient c.args.new_node c.args.place 0 (2 ^ 124) (omega (arith, c.requires.small)))

pub gather-requires : goal.gather-requires
gather-requires g c =
    let weight = to_z-of_z w128 c.node_weight.result (search rules) ∙ rw (to_z-of_z w128 c.args.coefficient c.ranges.coefficient) at c.node_weight.ensures in
    own_room g.G.Gather.takes g.G.Gather.holds c.args.terms.now (c.args.new_node ∷ []) _ _ _ _ refl weight
    c.requires.room

pub add_each_with-requires : goal.add_each_with-requires
add_each_with-requires g c =
    let back = to_z-of_z w128 c.args.coefficient c.ranges.coefficient in
    let weight = to_z-of_z w128 c.node_weight.result (search rules) ∙ rw back at c.node_weight.ensures in
    let pair = to_z-of_z w128 c.pair_weight.result (search rules) ∙ rw back at c.pair_weight.ensures in
    rw pair (others_room g.G.Gather.takes g.G.Gather.holds c.args.terms.now _ _ _ _ _ _ refl weight
    c.in_ok-gather.ensures.added c.in_ok-gather.ensures.takes c.requires.room)

pub returns : goal.returns
returns g c =
    let back = to_z-of_z w128 c.args.coefficient c.ranges.coefficient in
    let weight = to_z-of_z w128 c.node_weight.result (search rules) ∙ rw back at c.node_weight.ensures in
    let pair = to_z-of_z w128 c.pair_weight.result (search rules) ∙ rw back at c.pair_weight.ensures in
    own_and_others g.G.Gather.takes g.G.Gather.holds c.add_each_with.result c.args.terms.now _ _ _ _ _ _ _ refl
    weight c.in_ok-gather.ensures.added c.in_ok-gather.ensures.takes (rw pair at c.add_each_with.ensures)
