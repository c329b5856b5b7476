use Rattle.rosenberg_layer.proofs.Common.{◌≡◌, ◌++◌, arith, ap, sym, on_ok_weaker, terms_total, terms_total-append, fills_more, fills_same, room_first, room_next, ties_of, moved_of}
use Rattle.rosenberg_layer.proofs.gather.add_moved.Given.{Over}
use Rattle.rosenberg_layer.proofs.gather.add_moved.Goals.{After-deref-2}
use Rattle.rosenberg_layer.proofs.gather.add_moved.Goals as goal

-- the terms are the low ones, and those that tie the nodes
whole : (g : Over) (c : After-deref-2 g) → moved_of c.args.start c.args.made.now
    ≡ c.deref.result.now ++ ties_of c.args.start c.args.made.now.pairs c.deref-2.result.now
whole g c = λ i.
    sym c.deref.ensures.value i
    ++ ties_of c.args.start c.args.made.now.pairs (sym c.deref-2.ensures.value i)

pub add_all-requires : goal.add_all-requires
add_all-requires g c =
    let made = c.args.made.now in
    let ties = ties_of c.args.start made.pairs made.weights.items in
    room_first g.G.Gather.takes c.args.terms.now (moved_of c.args.start made) _ ties
    (ap (λ ts. ts ++ ties) (sym c.deref.ensures.value)) c.requires.room

pub add_ties-requires-clause-room : goal.add_ties-requires-clause-room
add_ties-requires-clause-room g c =
    room_next g.G.Gather.takes g.G.Gather.holds c.args.terms.now c.add_all.new.terms _ _ _
    (whole g (goal.at.add_ties-requires-clause-room g c).After-deref-2) c.in_ok-add_all.ensures
    c.requires.room

pub add_ties-requires-clause-small : goal.add_ties-requires-clause-small
add_ties-requires-clause-small g c =
    let all = whole g (goal.at.add_ties-requires-clause-small g c).After-deref-2 in
    let ties = ties_of c.args.start c.args.made.now.pairs c.deref-2.result.now in
    omega (arith, terms_total-append, ap terms_total all)

pub returns : goal.returns
returns g c =
    let Takes = g.G.Gather.takes in
    let Holds = g.G.Gather.holds in
    let all = whole g (goal.at.returns g c).After-deref-2 in
    on_ok_weaker c.add_ties.result
    (λ more. fills_same Takes Holds _ _ _ _ (sym all)
    (fills_more Takes Holds _ _ _ _ _ c.in_ok-add_all.ensures more))
    c.add_ties.ensures
