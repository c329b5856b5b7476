use Rattle.basic_solve.proofs.Common.{◌≡◌, ◌+◌, ◌*◌, ◌/◌, ◌<◌, ◌+ℤ◌, ◌∙◌, ap, arith, pos, map, get_or, length, length-set, unsigned_abs}
use Rattle.basic_solve.proofs.TableSizes.{most-at}
use Rattle.basic_solve.proofs.NumberLists.{value-at, set-next, pair_more}
use Rattle.basic_solve.proofs.tables.add_twice.Given.{Over}
use Rattle.basic_solve.proofs.tables.add_twice.Goals.{After-index-values-at-in-loop-at}
use Rattle.basic_solve.proofs.tables.add_twice.Goals as goal

pub plus-requires : goal.plus-requires
plus-requires g c =
    let value = g.T.Number.value in
    let us = c.loop-at.values in
    let at = c.loop-at.at in
    let lt : 2 * at < length us = omega (arith, c.loop-at-test.true, c.loop-at.auto.values) in
    let one = value-at value us (2 * at) c.index-values-at.result lt c.index-values-at.is in
    let two = value-at value c.args.from.now (c.args.start + at) c.index-from-start.result
    (omega (arith, c.requires.within, c.loop-at-test.true)) c.index-from-start.is in
    let same = c.loop-at.invariant.1 (2 * at) (omega arith) in
    omega (arith, ap unsigned_abs (one ∙ same), ap unsigned_abs two, most-at, c.requires.small)

-- the number that is added, and the two that it is added to, as they were
more_is : (g : Over) (c : After-index-values-at-in-loop-at g)
    → g.T.Number.value c.index-from-start.result
    ≡ get_or (map g.T.Number.value c.args.from.now) (c.args.start + c.loop-at.at) (pos 0)
more_is g c =
    value-at g.T.Number.value c.args.from.now (c.args.start + c.loop-at.at) c.index-from-start.result
    (omega (arith, c.requires.within, c.loop-at-test.true)) c.index-from-start.is

first_is : (g : Over) (c : After-index-values-at-in-loop-at g)
    → g.T.Number.value c.index-values-at.result
    ≡ get_or (map g.T.Number.value c.args.values.now) (2 * c.loop-at.at) (pos 0)
first_is g c =
    value-at g.T.Number.value c.loop-at.values (2 * c.loop-at.at) c.index-values-at.result
    (omega (arith, c.loop-at-test.true, c.loop-at.auto.values)) c.index-values-at.is
    ∙ c.loop-at.invariant.1 (2 * c.loop-at.at) (omega arith)

second_is : (g : Over) (c : After-index-values-at-in-loop-at g)
    → g.T.Number.value c.index-values-at-in-loop-at.result
    ≡ get_or (map g.T.Number.value c.args.values.now) (2 * c.loop-at.at + 1) (pos 0)
second_is g c =
    let us = c.loop-at.values in
    let at = c.loop-at.at in
    let lt : 2 * at + 1 < length us = omega (arith, c.loop-at-test.true, c.loop-at.auto.values) in
    value-at _ _ (2 * at + 1) _ (omega (arith, lt, length-set us (2 * at) c.plus.result)) c.index-values-at-in-loop-at.is
    ∙ set-next _ us (2 * at) c.plus.result ∙ c.loop-at.invariant.1 (2 * at + 1) (omega arith)

pub plus-requires-in-loop-at : goal.plus-requires-in-loop-at
plus-requires-in-loop-at g c =
    omega (arith, ap unsigned_abs (second_is g c), ap unsigned_abs (more_is g c), most-at, c.requires.small)

pub loop-at-preserved : goal.loop-at-preserved
loop-at-preserved g c =
    let at = c.loop-at.at in
    let after = (goal.at.loop-at-preserved g c).After-index-values-at-in-loop-at in
    let more = more_is g after in
    let low : 2 * at / 2 ≡ at = omega arith in
    let high : (2 * at + 1) / 2 ≡ at = omega arith in
    pair_more _ _ _
    (λ x. get_or (map _ c.args.values.now) x (pos 0)
    +ℤ get_or (map _ c.args.from.now) (c.args.start + x / 2) (pos 0)) at _ _ c.loop-at.auto.values
    (omega (arith, c.loop-at-test.true)) (cc (c.plus.ensures, first_is g after, more, low))
    (cc (c.plus-in-loop-at.ensures, second_is g after, more, high)) c.loop-at.invariant
