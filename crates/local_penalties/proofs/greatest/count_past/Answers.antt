use Rattle.local_penalties.proofs.Common.{ap, arith, nat_tests, count_past, drop_more, drop_all}
use Rattle.local_penalties.proofs.greatest.count_past.Goals as goal

pub loop-i-preserved : goal.loop-i-preserved
loop-i-preserved c =
    let h = c.loop-i.invariant in
    let i = c.loop-i.i in
    let ns = c.args.numbers.now in
    let next = ap (count_past c.loop-i.left) (drop_more ns i 0 (omega arith)) in
    record { within = omega arith; count = grind (arith, nat_tests) }

pub returns : goal.returns
returns c =
    let h = c.loop-i.invariant in
    let none = ap (count_past c.loop-i.left) (drop_all c.loop-i.i c.args.numbers.now (omega arith)) in
    grind (arith, nat_tests)
