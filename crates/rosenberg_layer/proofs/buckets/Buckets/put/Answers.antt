use Rattle.rosenberg_layer.proofs.Common.{◌≡◌, ◌+◌, ◌∷◌, ◌<◌, length, map, set, refl, sym, ap, ◌∙◌, subst, arith, rules, length-map, length-set, list_at, list_of, listed_count, IsApart, TermLists}
use Rattle.rosenberg_layer.proofs.Chains.{count_le, put_lists, put_room}
use Rattle.rosenberg_layer.proofs.buckets.Buckets.put.Goals.{After-index-head}
use Rattle.rosenberg_layer.proofs.buckets.Buckets.put.Goals as goal

-- the list has a head, the term has a place, and comes to the front of the list
put : (c : After-index-head) → let nexts = c.self.inside.nexts.items in
    let heads = c.self.inside.heads.items in
    let head = c.index-head.result.now in
    let lists = map (list_of nexts) heads in
    (c.args.list < length heads) × (c.args.term < length nexts)
    × (map (list_of (set nexts c.args.term head.first))
    (set heads c.args.list (record { first = c.args.term; count = head.count + 1 }))
    ≡ set lists c.args.list (c.args.term ∷ list_at lists c.args.list))
put c =
    let nexts = c.self.inside.nexts.items in
    let heads = c.self.inside.heads.items in
    let is = ap (λ (k : TermLists). k.lists) c.self.view_is in
    let room = ap (λ (k : TermLists). k.room) c.self.view_is in
    let within : c.args.list < length heads =
    omega (arith, c.requires.list, ap length is, length-map heads (list_of nexts)) in
    let inside : c.args.term < length nexts = omega (arith, c.requires.term, room) in
    let apart = subst (λ ls. IsApart ls c.args.term) (sym is) c.requires.apart in
    let new =
    put_lists nexts _ heads _ c.args.list _ _ c.index-head.result.now within inside apart
    (search rules) refl refl refl in
    (within, inside, new)

pub overflow_add-head : goal.overflow_add-head
overflow_add-head c =
    let at = put (goal.at.overflow_add-head c).After-index-head in
    let count =
    count_le c.self.inside.nexts.items c.self.inside.heads.items c.args.list c.index-head.result.now
    at.0 (search rules) in
    let all = ap (λ (k : TermLists). listed_count k.lists) c.self.view_is in
    omega (arith, count, all, c.requires.few)

pub invariant_of-self : goal.invariant_of-self
invariant_of-self c =
    let nexts = c.self.inside.nexts.items in
    let lists = map (list_of nexts) c.self.inside.heads.items in
    let at = put (goal.at.invariant_of-self c).After-index-head in
    let long = length-map c.self.inside.heads.items (list_of nexts) in
    put_room lists _ c.args.list c.args.term _ _ (omega (arith, at.0, long)) at.1 c.self.invariant
    at.2 (length-set nexts c.args.term c.index-head.result.now.first)

pub returns-clause-lists : goal.returns-clause-lists
returns-clause-lists c =
    (put (goal.at.returns-clause-lists c).After-index-head).2
    ∙ ap (λ (k : TermLists). set k.lists c.args.list (c.args.term ∷ list_at k.lists c.args.list))
    c.self.view_is
