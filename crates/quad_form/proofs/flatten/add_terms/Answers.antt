use Rattle.quad_form.proofs.Common.{rules, ◌≡◌, ◌∷◌, [], refl, w128, to_z-of_z, fills_as, rest_more, rest_room, room_as}
use Rattle.std.proofs.lemmas.Map.Iter.{rest_more as items_more}
use Rattle.quad_form.proofs.flatten.add_terms.Given.{Over}
use Rattle.quad_form.proofs.flatten.add_terms.Goals.{In-Some}
use Rattle.quad_form.proofs.flatten.add_terms.Goals as goal

-- the next term, and those after it
step : (g : Over) (c : In-Some g)
    → c.loop-literals.literals-iterator ≡ (c.in-Some.literals.now, c.in-Some.coefficient) ∷ c.next.new.self
step g c =
    items_more _ c.loop-literals.literals-iterator c.next.new.self c.next.result
    (c.in-Some.literals, c.in-Some.coefficient) c.in-Some.is c.next.ensures.steps

pub gather-requires : goal.gather-requires
gather-requires g c =
    room_as g.T.Gather.takes c.loop-literals.sums _ _ _ _ refl
    (to_z-of_z w128 c.in-Some.coefficient (search rules))
    (rest_room g.T.Gather.takes g.T.Gather.holds c.args.sums.now c.loop-literals.sums _ c.next.new.self _
    ((c.in-Some.literals.now, c.in-Some.coefficient) ∷ []) (step g (goal.at.gather-requires g c).In-Some)
    c.loop-literals.invariant c.requires)

pub loop-literals-preserved : goal.loop-literals-preserved
loop-literals-preserved g c =
    let one =
    fills_as g.T.Gather.takes g.T.Gather.holds c.loop-literals.sums c.gather.new.self c.in-Some.literals.now _
    c.in-Some.coefficient _ refl (to_z-of_z w128 c.in-Some.coefficient (search rules))
    c.in_ok-gather.ensures.added c.in_ok-gather.ensures.takes in
    rest_more g.T.Gather.takes g.T.Gather.holds c.args.sums.now c.loop-literals.sums c.gather.new.self _
    c.next.new.self _ _ (step g (goal.at.loop-literals-preserved g c).In-Some) one c.loop-literals.invariant
