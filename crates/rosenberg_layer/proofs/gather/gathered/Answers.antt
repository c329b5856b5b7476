use Rattle.rosenberg_layer.proofs.Common.{◌≡◌, ◌++◌, arith, refl, List, filter, Term, TableContent, AreAdditions, with_more, terms_total-append, room_first, room_next, room-additions, is_short, moved_of}
use Rattle.rosenberg_layer.proofs.gather.gathered.Goals as goal

-- for which additions a table that is being gathered has room, and what it holds
abbrev Takes : TableContent → List Term → Type 0
Takes t ts = AreAdditions (with_more t ts)

abbrev Holds : TableContent → TableContent → Type 0
Holds now t = now ≡ t

pub add_low-requires : goal.add_low-requires
add_low-requires c =
    let base = filter is_short c.args.table.now.content.terms in
    let moved = moved_of c.args.start c.args.made.now in
    room_first Takes c.new-quadratic.result (base ++ moved) base moved refl
    (room-additions c.args.width (base ++ moved) _ c.requires.additions c.new-quadratic.ensures)

pub add_moved-requires-clause-room : goal.add_moved-requires-clause-room
add_moved-requires-clause-room c =
    let base = filter is_short c.args.table.now.content.terms in
    let moved = moved_of c.args.start c.args.made.now in
    room_next Takes Holds c.new-quadratic.result c.add_low.new.terms (base ++ moved) base moved refl
    c.in_ok-add_low.ensures
    (room-additions c.args.width (base ++ moved) _ c.requires.additions c.new-quadratic.ensures)

pub add_moved-requires-clause-small : goal.add_moved-requires-clause-small
add_moved-requires-clause-small c =
    let base = filter is_short c.args.table.now.content.terms in
    let small = c.requires.additions.small in
    omega (arith, small, terms_total-append base (moved_of c.args.start c.args.made.now))
