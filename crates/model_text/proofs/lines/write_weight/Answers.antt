use Rattle.model_text.proofs.Common.{◌≡◌, ◌∷◌, nat_tests, arith, decimal, signed_decimal, length-decimal-le, ap, ◌∙◌}
use Rattle.std.proofs.Common.{to_z-of_z}
use Rattle.model_text.proofs.LineEnds.{ends_in}
use Rattle.model_text.proofs.lines.write_weight.Goals as goal

pub write_digits-at-requires : goal.write_digits-at-requires
write_digits-at-requires c = omega (arith, length-decimal-le 19 c.unsigned_abs.result (omega arith) (omega arith) (omega arith))

pub write_byte-requires : goal.write_byte-requires
write_byte-requires c = omega (arith, length-decimal-le 19 c.unsigned_abs.result (omega arith) (omega arith) (omega arith))

pub returns-then-weight-ge0 : goal.returns-then-weight-ge0
returns-then-weight-ge0 c =
    let n = c.unsigned_abs.result in
    let short = length-decimal-le 19 n (omega arith) (omega arith) (omega arith) in
    let text : decimal n ≡ signed_decimal c.args.weight = grind (arith, nat_tests, to_z-of_z c.ranges.weight) in
    ends_in _ _ _ _ c.args.line.now (decimal n) c.args.weight (omega (arith, short)) c.write_digits-at.ensures.start
    c.write_byte-end.ensures.start c.write_digits-at.ensures.written c.write_byte-end.ensures.written text

pub returns-else-weight-ge0 : goal.returns-else-weight-ge0
returns-else-weight-ge0 c =
    let n = c.unsigned_abs.result in
    let short = length-decimal-le 19 n (omega arith) (omega arith) (omega arith) in
    let text : 45 ∷ decimal n ≡ signed_decimal c.args.weight = grind (arith, nat_tests, to_z-of_z c.ranges.weight) in
    let written = c.write_byte.ensures.written ∙ ap (λ l. 45 ∷ l) c.write_digits-at.ensures.written in
    ends_in _ _ _ _ c.args.line.now (45 ∷ decimal n) c.args.weight (omega (arith, short)) (omega arith)
    c.write_byte-end.ensures.start written c.write_byte-end.ensures.written text
