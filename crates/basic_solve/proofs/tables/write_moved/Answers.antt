use Rattle.basic_solve.proofs.Common.{◌≡◌, ℤ, ◌<◌, ◌+ℤ◌, ◌∙◌, ap, sym, arith, pos, map, get_or, length, unsigned_abs, ext_get_or, get_or-map, length-map}
use Rattle.basic_solve.proofs.TableSizes.{most-at}
use Rattle.basic_solve.proofs.NumberLists.{value-at, value_more}
use Rattle.basic_solve.proofs.tables.write_moved.Goals as goal

pub plus-requires : goal.plus-requires
plus-requires g c =
    let from = c.args.from.now in
    let at = c.loop-at.at in
    let there : at < length from = omega (arith, c.loop-at-test.true, c.requires.count) in
    let one = value-at g.T.Number.value from at c.index-from-at.result there c.index-from-at.is in
    omega (arith, ap unsigned_abs one, most-at (map g.T.Number.value from) at, c.requires.small)

pub loop-at-preserved : goal.loop-at-preserved
loop-at-preserved g c =
    let value = g.T.Number.value in
    let from = c.args.from.now in
    let at = c.loop-at.at in
    let there : at < length from = omega (arith, c.loop-at-test.true, c.requires.count) in
    let one = value-at value from at c.index-from-at.result there c.index-from-at.is in
    value_more value _ _ (λ x. get_or (map value from) x (pos 0) +ℤ value c.args.step) at _
    c.loop-at.auto.into c.loop-at-test.true (c.plus.ensures ∙ ap (λ v. v +ℤ value c.args.step) one) c.loop-at.invariant

pub returns : goal.returns
returns g c =
    let value = g.T.Number.value in
    let from = c.args.from.now in
    let moved : ℤ → ℤ = λ v. v +ℤ value c.args.step in
    let one = length-map c.loop-at.into value in
    let two = length-map from value in
    let three = length-map (map value from) moved in
    let long : length c.loop-at.into ≡ length from = c.loop-at.auto.into ∙ c.requires.count in
    ext_get_or (pos 0) (map value c.loop-at.into) (map moved (map value from)) (omega arith) (λ x l.
    let lt : x < length from = omega (arith, l) in
    c.loop-at.invariant.0 x (omega (arith, lt, c.loop-at.auto.into, c.loop-at-test.false))
    ∙ sym (get_or-map moved (map value from) x (pos 0) (pos 0) (omega (arith, lt))))
