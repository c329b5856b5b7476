use Rattle.penalty_layer.proofs.Common.{rules, ◌∷◌, [], ◌∙◌, ap, sym, map, pos, unwrap_or, w128, to_z-of_z, Clause, opposite, own, clause_term, clause_terms, fills_as, rest_all, rest_more, rest_room, room_as}
use Rattle.penalty_layer.proofs.adding.add_clauses.Goals as goal

pub gather-requires : goal.gather-requires
gather-requires g c =
    let n = c.args.penalty in
    let ns = c.loop-clause.left.now in
    let t : Clause = c.in-Some.clause in
    let set = c.deref.ensures.value ∙ c.in_ok-set_opposites.ensures ∙ ap (λ (u : Clause). map opposite u.literals) c.clause.view_is in
    let weight = to_z-of_z w128 c.weight_or.result (search rules) ∙ c.weight_or.ensures
    ∙ ap (λ m. pos (unwrap_or c.clause.inside.weight m)) c.own_or.ensures
    ∙ ap (λ (u : Clause). pos (unwrap_or u.weight (own n ns))) c.clause.view_is in
    room_as g.T.Gather.takes c.loop-clause.terms _ _ _ _ set weight
    (rest_room _ _ _ _ _ _ _ (clause_term (own n ns) t ∷ [])
    (ap (clause_terms n ns) c.in-Some.ensures.steps) c.loop-clause.invariant c.requires.room)

pub loop-clause-preserved : goal.loop-clause-preserved
loop-clause-preserved g c =
    let n = c.args.penalty in
    let ns = c.loop-clause.left.now in
    let t : Clause = c.in-Some.clause in
    let set = c.deref.ensures.value ∙ c.in_ok-set_opposites.ensures ∙ ap (λ (u : Clause). map opposite u.literals) c.clause.view_is in
    let weight = to_z-of_z w128 c.weight_or.result (search rules) ∙ c.weight_or.ensures
    ∙ ap (λ m. pos (unwrap_or c.clause.inside.weight m)) c.own_or.ensures
    ∙ ap (λ (u : Clause). pos (unwrap_or u.weight (own n ns))) c.clause.view_is in
    let one =
    fills_as g.T.Gather.takes g.T.Gather.holds c.loop-clause.terms c.gather.new.self _ _ _ _ set weight
    c.in_ok-gather.ensures.added c.in_ok-gather.ensures.takes in
    let steps = ap (clause_terms n ns) c.in-Some.ensures.steps
    ∙ ap (λ ms. clause_term (own n ns) t ∷ clause_terms n ms c.next.new.self) (sym c.after_first-left.ensures) in
    rest_more _ _ _ _ _ _ _ _ _ steps one c.loop-clause.invariant

pub returns : goal.returns
returns g c =
    rest_all _ _ _ _ _ _ (ap (clause_terms c.args.penalty c.loop-clause.left.now) c.in-None.ensures.steps.0) c.loop-clause.invariant
