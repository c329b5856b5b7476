use Rattle.penalty_layer.proofs.Common.{nat_tests, rules, ◌≡◌, ◌*◌, ◌^◌, ◌∙◌, ap, sym, drop, unsigned_abs, arith, to_z, of_z, ◌*ℤ◌, w128, to_z-of_z, drop_all, products_with, union_terms, fills_same, rest_all, rest_more, rest_none, rest_room, room_same}
use Rattle.penalty_layer.proofs.SquareSteps.{part_at, row_step, row_small}
use Rattle.penalty_layer.proofs.squares.add_row.Goals as goal

pub loop-j-init : goal.loop-j-init
loop-j-init g c = record {
  rest =
      rest_none g.T.Gather.takes g.T.Gather.holds c.args.terms.now
      (products_with (c.args.ls.now, c.args.coefficient.now) (drop c.args.start c.args.parts.now));
  small = c.requires.small;
}

pub times-requires : goal.times-requires
times-requires g c =
    let a = unsigned_abs c.args.coefficient.now in
    let same : to_z w128 (of_z w128 c.at-other.result.1) ≡ c.at-other.result.1 = to_z-of_z w128 c.at-other.result.1 (search rules) in
    let small = row_small a c.args.parts.now c.loop-j.j _ (2 ^ 97) c.at-other.ensures c.loop-j.invariant.small in
    omega (arith, ap (λ z. a * unsigned_abs z) same)

pub add_union-requires-clause-right : goal.add_union-requires-clause-right
add_union-requires-clause-right g c =
    part_at c.args.parts.now c.loop-j.j _ c.at-other.ensures c.requires.parts

pub add_union-requires-clause-room : goal.add_union-requires-clause-room
add_union-requires-clause-room g c =
    let a = c.args.coefficient.now in
    let ls = c.args.ls.now in
    let b = c.at-other.result.1 in
    let ks = c.at-other.result.0.now in
    let same : to_z w128 (of_z w128 b) ≡ b = to_z-of_z w128 b (search rules) in
    let product : to_z w128 (of_z w128 c.times.result) ≡ a *ℤ b =
    to_z-of_z w128 c.times.result (search rules) ∙ c.times.ensures ∙ ap (λ z. a *ℤ z) same in
    room_same g.T.Gather.takes c.loop-j.terms _ _ (ap (union_terms ls ks) (sym product))
    (rest_room _ _ _ _ _ _ _ (union_terms ls ks (a *ℤ b))
    (row_step (ls, a) _ c.loop-j.j _ c.at-other.ensures) c.loop-j.invariant.rest c.requires.room)

pub loop-j-preserved : goal.loop-j-preserved
loop-j-preserved g c =
    let a = c.args.coefficient.now in
    let ls = c.args.ls.now in
    let b = c.at-other.result.1 in
    let same : to_z w128 (of_z w128 b) ≡ b = to_z-of_z w128 b (search rules) in
    let product : to_z w128 (of_z w128 c.times.result) ≡ a *ℤ b =
    to_z-of_z w128 c.times.result (search rules) ∙ c.times.ensures ∙ ap (λ z. a *ℤ z) same in
    let one = fills_same _ _ _ _ _ _ (ap (union_terms ls _) product) c.in_ok-add_union.ensures in
    let step = row_step (ls, a) _ c.loop-j.j _ c.at-other.ensures in
    record {
      rest = rest_more _ _ _ _ _ _ _ _ _ step one c.loop-j.invariant.rest;
      small = omega (arith, row_small _ _ c.loop-j.j _ _ c.at-other.ensures c.loop-j.invariant.small);
    }

pub returns : goal.returns
returns g c = grind (arith, nat_tests, rest_all, drop_all)
