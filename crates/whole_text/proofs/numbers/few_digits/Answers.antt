use Rattle.whole_text.proofs.Common.{nat_tests, ◌≡◌, ◌+◌, get_or, true, ◌-◌, sym, ◌∙◌, arith, is_ascii_digit, take_all, eqb-false}
use Rattle.whole_text.proofs.DigitLoop.{more_value, more_digits, value_is, size_plain, pow_more, pow_few, digit_small}
use Rattle.whole_text.proofs.numbers.few_digits.Goals as goal

pub overflow_mul-value : goal.overflow_mul-value
overflow_mul-value c =
    let i = c.loop-byte.byte-index in
    omega (arith, c.loop-byte.invariant.small, pow_more i c.loop-byte.value 0 c.loop-byte.invariant.small (omega arith), pow_few (i + 1) (omega arith))

pub overflow_add-value : goal.overflow_add-value
overflow_add-value c =
    let i = c.loop-byte.byte-index in
    let digit : is_ascii_digit (get_or c.args.bytes.now i 0) ≡ true = sym c.is_ascii_digit.ensures.value ∙ c.if-not-is_ascii_digit.false in
    omega (arith, c.from.ensures, pow_more i c.loop-byte.value (get_or c.args.bytes.now i 0 - 48) c.loop-byte.invariant.small (digit_small (get_or c.args.bytes.now i 0) digit), pow_few (i + 1) (omega arith))

pub loop-byte-preserved : goal.loop-byte-preserved
loop-byte-preserved c =
    let i = c.loop-byte.byte-index in
    let byte = get_or c.args.bytes.now i 0 in
    let digit : is_ascii_digit byte ≡ true = sym c.is_ascii_digit.ensures.value ∙ c.if-not-is_ascii_digit.false in
    let e = more_value c.args.bytes.now i c.loop-byte.value c.loop-byte-test.true digit c.loop-byte.invariant.value in
    record {
      digits = more_digits c.args.bytes.now i c.loop-byte-test.true digit c.loop-byte.invariant.digits;
      small = omega (arith, c.from.ensures, pow_more i c.loop-byte.value (byte - 48) c.loop-byte.invariant.small (digit_small byte digit));
      value = omega (arith, e, c.from.ensures);
    }

pub returns : goal.returns
returns c = grind (arith, nat_tests, take_all, eqb-false, pow_few, size_plain, value_is)
