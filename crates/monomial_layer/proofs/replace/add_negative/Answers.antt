use Rattle.monomial_layer.proofs.Common.{◌∷◌, ◌-◌, ◌^◌, ◌*ℤ◌, ◌∙◌, [], ap, pos, neg_ℤ, length, arith, rules, w128, ints, to_z-of_z, Literal, node}
use Rattle.monomial_layer.proofs.Adding.{others_room, own_and_others, own_room}
use Rattle.monomial_layer.proofs.Sizes.{negative_weight-fits}
use Rattle.monomial_layer.proofs.replace.add_negative.Goals as goal

pub negative_weight-requires-clause-small : goal.negative_weight-requires-clause-small
negative_weight-requires-clause-small g c =
    let fits = negative_weight-fits c.args.literals.now c.args.coefficient _ c.args.next 0 (2 ^ 124)
    (ap (λ z. neg_ℤ (z *ℤ pos (length c.args.literals.now - 1)))
    (to_z-of_z w128 c.args.coefficient c.ranges.coefficient)) (omega (arith, c.requires.small)) in
    omega (arith, ints, fits)

pub gather-requires : goal.gather-requires
gather-requires g c =
    let back = to_z-of_z w128 c.args.coefficient c.ranges.coefficient in
    let weight = to_z-of_z w128 c.negative_weight.result (search rules) ∙ rw back at c.negative_weight.ensures in
    own_room g.G.Gather.takes g.G.Gather.holds c.args.terms.now (node c.args.next ∷ []) _ _ _ _
    (ap (λ (l : Literal). l ∷ []) c.node-new_node.ensures) weight c.requires.room

pub add_each_with-requires : goal.add_each_with-requires
add_each_with-requires g c =
    let back = to_z-of_z w128 c.args.coefficient c.ranges.coefficient in
    let weight = to_z-of_z w128 c.negative_weight.result (search rules) ∙ rw back at c.negative_weight.ensures in
    rw (c.node-new_node.ensures, back)
    (others_room g.G.Gather.takes g.G.Gather.holds c.args.terms.now _ _ _ _ _ _
    (ap (λ (l : Literal). l ∷ []) c.node-new_node.ensures) weight c.in_ok-gather.ensures.added
    c.in_ok-gather.ensures.takes c.requires.room)

pub returns : goal.returns
returns g c =
    let back = to_z-of_z w128 c.args.coefficient c.ranges.coefficient in
    let weight = to_z-of_z w128 c.negative_weight.result (search rules) ∙ rw back at c.negative_weight.ensures in
    own_and_others g.G.Gather.takes g.G.Gather.holds c.add_each_with.result c.args.terms.now _ _ _ _ _ _ _
    (ap (λ (l : Literal). l ∷ []) c.node-new_node.ensures) weight c.in_ok-gather.ensures.added
    c.in_ok-gather.ensures.takes (rw (c.node-new_node.ensures, back) at c.add_each_with.ensures)
