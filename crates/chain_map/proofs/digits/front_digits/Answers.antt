use Rattle.chain_map.proofs.Common.{◌+◌, sym, ◌∙◌, arith, more_value, more_digits, pow_more, pow_few, digit_small, get_or, ◌-◌}
use Rattle.chain_map.proofs.digits.front_digits.Goals as goal

pub overflow_mul-value : goal.overflow_mul-value
overflow_mul-value c =
    let more = pow_more c.loop-len.len c.loop-len.value 0 c.loop-len.invariant.small (omega arith) in
    omega (arith, c.loop-len.invariant.small, pow_few (c.loop-len.len + 1) (omega arith))

pub overflow_add-value : goal.overflow_add-value
overflow_add-value c =
    let byte = get_or c.args.bytes.now c.loop-len.len 0 in
    let digit = digit_small byte (sym c.is_ascii_digit.ensures.value ∙ c.if-is_ascii_digit.true) in
    let more = pow_more c.loop-len.len c.loop-len.value (byte - 48) c.loop-len.invariant.small digit in
    omega (arith, c.from.ensures, pow_few (c.loop-len.len + 1) (omega arith))

pub loop-len-preserved : goal.loop-len-preserved
loop-len-preserved c =
    let bytes = c.args.bytes.now in
    let i = c.loop-len.len in
    let below = c.loop-len-test.true in
    let digit = sym c.is_ascii_digit.ensures.value ∙ c.if-is_ascii_digit.true in
    let e = more_value bytes i c.loop-len.value below digit c.loop-len.invariant.value in
    let byte = get_or bytes i 0 in
    let small = pow_more i c.loop-len.value (byte - 48) c.loop-len.invariant.small (digit_small byte digit) in
    record {
      within = omega arith;
      few = omega arith;
      digits = more_digits bytes i below digit c.loop-len.invariant.digits;
      small = omega (arith, c.from.ensures, small);
      value = omega (arith, e, c.from.ensures);
    }
