use Rattle.chain_map.proofs.Common.{take, sym, ◌∙◌, arith, length-take}
use Rattle.chain_map.proofs.LineNumbers.{digits_end, digits_number}
use Rattle.chain_map.proofs.digits.first_number.Goals.{then-len-bytes, else-len-bytes}
use Rattle.chain_map.proofs.digits.first_number.Goals as goal

pub returns-then-is_blank-clause-len : goal.returns-then-is_blank-clause-len
returns-then-is_blank-clause-len c =
    let bytes = c.args.bytes.now in
    let n = c.front_digits-value.result.1 in
    let d = c.front_digits-value.ensures in
    sym (digits_end bytes n d.within d.digits (λ lt. elim c.if-len-bytes.branch [
      | then-len-bytes w ↦ absurd (omega (arith, lt, w.if-len-bytes.true))
      | else-len-bytes w ↦ sym w.is_blank.ensures ∙ sym w.value-is ∙ c.if-is_blank.true
    ]))

pub returns-then-is_blank-clause-value : goal.returns-then-is_blank-clause-value
returns-then-is_blank-clause-value c =
    let n = c.front_digits-value.result.1 in
    let d = c.front_digits-value.ensures in
    let some = length-take n c.args.bytes.now in
    rw (← returns-then-is_blank-clause-len c)
    (digits_number c.args.line _ (take n c.args.bytes.now) d.digits
    (omega (arith, c.if-len-gt0.true)) d.small d.value)
