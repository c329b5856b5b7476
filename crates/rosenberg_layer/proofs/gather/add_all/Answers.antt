use Rattle.rosenberg_layer.proofs.Common.{◌∷◌, ◌+◌, [], drop, refl, get_or, rules, List, pos, w128, to_z-of_z, Term, fills_as, rest_room, room_as}
use Rattle.term_table.proofs.Filling.{rest_more}
use Rattle.rosenberg_layer.proofs.Gathered.{next-left}
use Rattle.rosenberg_layer.proofs.gather.add_all.Goals as goal

pub gather-requires : goal.gather-requires
gather-requires g c =
    let xs : List Term = c.args.low.now in
    let d : Term = get_or xs c.loop-set.set-index ([], pos 0) in
    let i = c.loop-set.set-index in
    let back = to_z-of_z w128 d.1 (search rules) in
    let left = next-left xs i d ([], pos 0) c.loop-set-test.true refl in
    room_as g.G.Gather.takes c.loop-set.terms d.0 _ d.1 _ refl back
    (rest_room g.G.Gather.takes g.G.Gather.holds c.args.terms.now c.loop-set.terms (drop i xs) (drop (i + 1) xs)
    xs (d ∷ []) left c.loop-set.invariant c.requires)

pub loop-set-preserved : goal.loop-set-preserved
loop-set-preserved g c =
    let xs : List Term = c.args.low.now in
    let d : Term = get_or xs c.loop-set.set-index ([], pos 0) in
    let i = c.loop-set.set-index in
    let back = to_z-of_z w128 d.1 (search rules) in
    let left = next-left xs i d ([], pos 0) c.loop-set-test.true refl in
    let one =
    fills_as g.G.Gather.takes g.G.Gather.holds c.loop-set.terms c.gather.new.self d.0 _ d.1 _
    refl back c.in_ok-gather.ensures.added c.in_ok-gather.ensures.takes in
    rest_more g.G.Gather.takes g.G.Gather.holds c.args.terms.now c.loop-set.terms c.gather.new.self (drop i xs)
    (drop (i + 1) xs) xs (d ∷ []) left one c.loop-set.invariant
