use Rattle.batch_costs.proofs.Common.{arith, nat_tests}
use Rattle.batch_costs.proofs.MarkedWords.{same_assignment, unchanged_assignment}
use Rattle.batch_costs.proofs.assignments.put_bits.Goals as goal

pub returns-clause-put : goal.returns-clause-put
returns-clause-put c =
    same_assignment c.loop-i.words c.args.x.now c.args.place
    (omega (arith, c.loop-i.invariant.width, c.requires.width))
    (λ v within.
    let is = c.loop-i.invariant.done v (omega (arith, within, c.loop-i-test.false, c.loop-i.auto.i-end)) c.args.place c.requires.place in
    grind (arith, nat_tests))

pub returns-clause-others : goal.returns-clause-others
returns-clause-others c = λ k below apart.
    unchanged_assignment c.loop-i.words c.args.words.now k c.loop-i.invariant.width
    (λ v within.
    let is = c.loop-i.invariant.done v (omega (arith, within, c.loop-i-test.false, c.loop-i.auto.i-end)) k below in
    grind (arith, nat_tests))
