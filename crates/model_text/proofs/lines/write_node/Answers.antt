use Rattle.model_text.proofs.Common.{◌<◌, ◌^◌, arith, length-decimal-le}
use Rattle.model_text.proofs.LineEnds.{kept_after}
use Rattle.model_text.proofs.lines.write_node.Goals as goal

pub write_digits-requires : goal.write_digits-requires
write_digits-requires c =
    let small : c.from.result < 2 ^ 32 = omega (arith, c.from.ensures, c.ranges.node.fits) in
    omega (arith, length-decimal-le 10 c.from.result (omega arith) (omega (arith, small)) (omega (arith, small)))

pub returns-clause-start : goal.returns-clause-start
returns-clause-start c =
    let small : c.from.result < 2 ^ 32 = omega (arith, c.from.ensures, c.ranges.node.fits) in
    omega (arith, length-decimal-le 10 c.from.result (omega arith) (omega (arith, small)) (omega (arith, small)))

pub returns-clause-after : goal.returns-clause-after
returns-clause-after c =
    kept_after _ _ c.args.end 32 _ _ c.args.line.now _ c.write_digits.ensures.start c.write_byte-end.ensures.start
    c.write_digits.ensures.written c.write_byte-end.ensures.written
