use Rattle.model_text.proofs.Common.{◌<◌, ◌^◌, arith, nat_tests, length-decimal-le, drop_all}
use Rattle.model_text.proofs.lines.write_front.Goals as goal

pub write_digits-requires : goal.write_digits-requires
write_digits-requires c =
    let small : c.from.result < 2 ^ 32 = omega (arith, c.from.ensures, c.ranges.node.fits) in
    omega (arith, length-decimal-le 10 c.from.result (omega arith) (omega (arith, small)) (omega (arith, small)))

pub returns-clause-written : goal.returns-clause-written
returns-clause-written c = grind (arith, nat_tests, drop_all 11 c.args.front.now (omega arith))
