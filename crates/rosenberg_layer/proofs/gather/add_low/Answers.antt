use Rattle.rosenberg_layer.proofs.Common.{◌≡◌, ◌∷◌, [], ap, sym, rules, w128, filter, to_z-of_z, rest_more, Term, is_short}
use Rattle.term_table.proofs.Filling as filling
use Rattle.rosenberg_layer.proofs.Gathered.{rest-start, short-split}
use Rattle.rosenberg_layer.proofs.gather.add_low.Goals as goal

pub loop-literals-init : goal.loop-literals-init
loop-literals-init g c =
    let t = c.args.table.now.content in
    let left : c.into_iter-literals-iterator.result ≡ t.terms = search rules in
    rest-start g.G.Gather.takes g.G.Gather.holds c.args.terms.now _ (filter is_short t.terms)
    (ap (filter is_short) left)

pub add_short-requires : goal.add_short-requires
add_short-requires g c =
    let Takes = g.G.Gather.takes in
    let Holds = g.G.Gather.holds in
    let u : Term = (c.in-Some.literals.now, c.in-Some.coefficient) in
    let now = c.loop-literals.terms in
    let left =
    rest_more _ c.loop-literals.literals-iterator c.next.new.self c.next.result
    (c.in-Some.literals, c.in-Some.coefficient) c.in-Some.is c.next.ensures.steps in
    let back = to_z-of_z w128 c.in-Some.coefficient (search rules) in
    filling.room_same Takes now (filter is_short (u ∷ [])) _
    (ap (λ z. filter is_short ((u.0, z) ∷ [])) (sym back))
    (filling.rest_room Takes Holds c.args.terms.now now (filter is_short c.loop-literals.literals-iterator)
    (filter is_short c.next.new.self) (filter is_short c.args.table.now.content.terms)
    (filter is_short (u ∷ [])) (short-split u _ _ left) c.loop-literals.invariant c.requires)

pub loop-literals-preserved : goal.loop-literals-preserved
loop-literals-preserved g c =
    let Takes = g.G.Gather.takes in
    let Holds = g.G.Gather.holds in
    let u : Term = (c.in-Some.literals.now, c.in-Some.coefficient) in
    let new = c.add_short.new.terms in
    let left =
    rest_more _ c.loop-literals.literals-iterator c.next.new.self c.next.result
    (c.in-Some.literals, c.in-Some.coefficient) c.in-Some.is c.next.ensures.steps in
    let back = to_z-of_z w128 c.in-Some.coefficient (search rules) in
    let one =
    filling.fills_same Takes Holds c.loop-literals.terms new _ (filter is_short (u ∷ []))
    (ap (λ z. filter is_short ((u.0, z) ∷ [])) back) c.in_ok-add_short.ensures in
    filling.rest_more Takes Holds c.args.terms.now c.loop-literals.terms new
    (filter is_short c.loop-literals.literals-iterator) (filter is_short c.next.new.self)
    (filter is_short c.args.table.now.content.terms) (filter is_short (u ∷ []))
    (short-split u _ _ left) one c.loop-literals.invariant
