use Rattle.penalty_layer.proofs.Common.{rules, ◌≡◌, ◌+◌, ◌*◌, ◌^◌, ◌∙◌, ◌∷◌, [], ap, sym, refl, drop, drop_all, unsigned_abs, pos, arith, to_z, of_z, ◌*ℤ◌, w128, to_z-of_z, Term, terms_total, scaled, products_with, square_terms, fills_as, fills_more, fills_same, rest_all, rest_more, rest_room, room_as, room_first, room_next, room_same}
use Rattle.penalty_layer.proofs.SquareSteps.{part_at, square_step, square_small, once_small, scaled_size}
use Rattle.penalty_layer.proofs.squares.add_square.Goals as goal

pub squared-requires-clause-small : goal.squared-requires-clause-small
squared-requires-clause-small g c =
    let n = c.args.factor in
    let a = c.at-coefficient.result.1 in
    let same : to_z w128 (of_z w128 a) ≡ a = to_z-of_z w128 a (search rules) in
    let small = square_small n c.args.parts.now c.loop-i.i _ (2 ^ 97) c.at-coefficient.ensures c.loop-i.invariant.small in
    omega (arith, ap (λ z. n * (unsigned_abs z * unsigned_abs z)) same)

pub gather-requires : goal.gather-requires
gather-requires g c =
    let n = c.args.factor in
    let us = c.args.parts.now in
    let i = c.loop-i.i in
    let a = c.at-coefficient.result.1 in
    let u : Term = (c.at-coefficient.result.0.now, a) in
    let row = products_with (scaled (pos (2 * n)) u) (drop (i + 1) us) in
    let same : to_z w128 (of_z w128 a) ≡ a = to_z-of_z w128 a (search rules) in
    let own : to_z w128 (of_z w128 c.squared.result) ≡ pos n *ℤ (a *ℤ a) =
    to_z-of_z w128 c.squared.result (search rules) ∙ c.squared.ensures ∙ ap (λ z. pos n *ℤ (z *ℤ z)) same in
    room_as g.T.Gather.takes c.loop-i.terms u.0 _ (pos n *ℤ (a *ℤ a)) _ refl own
    (room_first g.T.Gather.takes c.loop-i.terms ((u.0, pos n *ℤ (a *ℤ a)) ∷ row) ((u.0, pos n *ℤ (a *ℤ a)) ∷ []) row refl
    (rest_room _ _ _ _ _ _ _ ((u.0, pos n *ℤ (a *ℤ a)) ∷ row)
    (square_step n us i u c.at-coefficient.ensures) c.loop-i.invariant.rest c.requires.room))

pub scaled-requires-clause-small : goal.scaled-requires-clause-small
scaled-requires-clause-small g c =
    let n = c.args.factor in
    let a = c.at-coefficient.result.1 in
    let same : to_z w128 (of_z w128 a) ≡ a = to_z-of_z w128 a (search rules) in
    let small = square_small n c.args.parts.now c.loop-i.i _ (2 ^ 97) c.at-coefficient.ensures c.loop-i.invariant.small in
    omega (arith, ap (λ z. 2 * n * unsigned_abs z) same, once_small n (unsigned_abs a))

pub add_row-requires-clause-left : goal.add_row-requires-clause-left
add_row-requires-clause-left g c =
    part_at c.args.parts.now c.loop-i.i _ c.at-coefficient.ensures c.requires.parts

pub add_row-requires-clause-small : goal.add_row-requires-clause-small
add_row-requires-clause-small g c =
    let n = c.args.factor in
    let a = c.at-coefficient.result.1 in
    let same : to_z w128 (of_z w128 a) ≡ a = to_z-of_z w128 a (search rules) in
    let twice : to_z w128 (of_z w128 c.scaled.result) ≡ pos (2 * n) *ℤ a =
    to_z-of_z w128 c.scaled.result (search rules) ∙ c.scaled.ensures ∙ ap (λ z. pos (2 * n) *ℤ z) same in
    let left = terms_total (drop (c.loop-i.i + 1) c.args.parts.now) in
    let small = square_small n c.args.parts.now c.loop-i.i _ (2 ^ 97) c.at-coefficient.ensures c.loop-i.invariant.small in
    omega (arith, ap (λ z. unsigned_abs z * left) twice, ap (λ m. m * left) (scaled_size (2 * n) a))

pub add_row-requires-clause-room : goal.add_row-requires-clause-room
add_row-requires-clause-room g c =
    let n = c.args.factor in
    let us = c.args.parts.now in
    let i = c.loop-i.i in
    let now = c.loop-i.terms in
    let next = c.gather.new.self in
    let a = c.at-coefficient.result.1 in
    let u : Term = (c.at-coefficient.result.0.now, a) in
    let square : Term = (u.0, pos n *ℤ (a *ℤ a)) in
    let row = products_with (scaled (pos (2 * n)) u) (drop (i + 1) us) in
    let same : to_z w128 (of_z w128 a) ≡ a = to_z-of_z w128 a (search rules) in
    let own : to_z w128 (of_z w128 c.squared.result) ≡ pos n *ℤ (a *ℤ a) =
    to_z-of_z w128 c.squared.result (search rules) ∙ c.squared.ensures ∙ ap (λ z. pos n *ℤ (z *ℤ z)) same in
    let twice : to_z w128 (of_z w128 c.scaled.result) ≡ pos (2 * n) *ℤ a =
    to_z-of_z w128 c.scaled.result (search rules) ∙ c.scaled.ensures ∙ ap (λ z. pos (2 * n) *ℤ z) same in
    let first =
    fills_as g.T.Gather.takes g.T.Gather.holds now next u.0 _ (pos n *ℤ (a *ℤ a)) _ refl own c.in_ok-gather.ensures.added
    c.in_ok-gather.ensures.takes in
    room_same g.T.Gather.takes next row _ (ap (λ z. products_with (u.0, z) (drop (i + 1) us)) (sym twice))
    (room_next g.T.Gather.takes g.T.Gather.holds now next (square ∷ row) (square ∷ []) row refl first
    (rest_room _ _ _ _ _ _ _ (square ∷ row) (square_step n us i u c.at-coefficient.ensures)
    c.loop-i.invariant.rest c.requires.room))

pub loop-i-preserved : goal.loop-i-preserved
loop-i-preserved g c =
    let n = c.args.factor in
    let a = c.at-coefficient.result.1 in
    let same : to_z w128 (of_z w128 a) ≡ a = to_z-of_z w128 a (search rules) in
    let own : to_z w128 (of_z w128 c.squared.result) ≡ pos n *ℤ (a *ℤ a) =
    to_z-of_z w128 c.squared.result (search rules) ∙ c.squared.ensures ∙ ap (λ z. pos n *ℤ (z *ℤ z)) same in
    let twice : to_z w128 (of_z w128 c.scaled.result) ≡ pos (2 * n) *ℤ a =
    to_z-of_z w128 c.scaled.result (search rules) ∙ c.scaled.ensures ∙ ap (λ z. pos (2 * n) *ℤ z) same in
    let first =
    fills_as g.T.Gather.takes g.T.Gather.holds c.loop-i.terms c.gather.new.self c.at-coefficient.result.0.now _
    _ _ refl own c.in_ok-gather.ensures.added c.in_ok-gather.ensures.takes in
    let row = ap (λ z. products_with (c.at-coefficient.result.0.now, z) (drop (c.loop-i.i + 1) c.args.parts.now)) twice in
    let both = fills_more _ _ _ _ _ _ _ first (fills_same _ _ _ _ _ _ row c.in_ok-add_row.ensures) in
    let step = square_step n _ c.loop-i.i _ c.at-coefficient.ensures in
    record {
      rest = rest_more _ _ _ _ _ _ _ _ _ step both c.loop-i.invariant.rest;
      small = omega (arith, square_small n _ c.loop-i.i _ _ c.at-coefficient.ensures c.loop-i.invariant.small);
    }

pub returns : goal.returns
returns g c =
    let none = drop_all c.loop-i.i c.args.parts.now (rw c.len-i-end.ensures at c.loop-i-test.false) in
    rest_all _ _ _ _ _ _ (ap (square_terms c.args.factor) none) c.loop-i.invariant.rest
