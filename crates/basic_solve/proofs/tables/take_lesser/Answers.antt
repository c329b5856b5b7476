use Rattle.basic_solve.proofs.Common.{arith, pos, map, get_or, int_min}
use Rattle.basic_solve.proofs.NumberLists.{value-at, value_more}
use Rattle.basic_solve.proofs.tables.take_lesser.Goals as goal

pub loop-at-preserved : goal.loop-at-preserved
loop-at-preserved g c =
    let value = g.T.Number.value in
    let at = c.loop-at.at in
    let test = c.loop-at-test.true in
    let one = value-at value c.loop-at.values at c.index-values-at.result (omega (arith, test, c.loop-at.auto.values)) c.index-values-at.is in
    let two = value-at value c.args.others.now at c.index-others-at.result (omega (arith, test, c.requires)) c.index-others-at.is in
    let same = c.loop-at.invariant.1 at (omega arith) in
    value_more value c.args.values.now c.loop-at.values
    (λ x. int_min (get_or (map value c.args.values.now) x (pos 0)) (get_or (map value c.args.others.now) x (pos 0))) at
    c.lesser.result c.loop-at.auto.values test (cc (c.lesser.ensures, one, two, same)) c.loop-at.invariant
