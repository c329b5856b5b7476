use Rattle.whole_text.proofs.Common.{nat_tests, ◌≡◌, get_or, true, sym, ◌∙◌, arith, is_ascii_digit, take_all, eqb-true, eqb-false}
use Rattle.whole_text.proofs.DigitLoop.{none_empty, none_at, none_from_front, more_value, more_digits, value_is}
use Rattle.whole_text.proofs.numbers.digits.Goals as goal

pub returns-then-is_empty : goal.returns-then-is_empty
returns-then-is_empty c = none_empty c.args.bytes.now (eqb-true _ _ (sym c.is_empty.ensures ∙ c.if-is_empty.true))

pub returns-then-not-is_ascii_digit : goal.returns-then-not-is_ascii_digit
returns-then-not-is_ascii_digit c = none_at c.args.bytes.now c.loop-byte.byte-index c.loop-byte-test.true (sym c.is_ascii_digit.ensures.value ∙ c.if-not-is_ascii_digit.true)

pub returns-in_err-checked_mul : goal.returns-in_err-checked_mul
returns-in_err-checked_mul c = grind (arith, nat_tests, more_value, none_from_front)

pub returns-in_err-value : goal.returns-in_err-value
returns-in_err-value c = grind (arith, nat_tests, more_value, none_from_front)

pub loop-byte-preserved : goal.loop-byte-preserved
loop-byte-preserved c =
    let digit : is_ascii_digit (get_or c.args.bytes.now c.loop-byte.byte-index 0) ≡ true = sym c.is_ascii_digit.ensures.value ∙ c.if-not-is_ascii_digit.false in
    let e = more_value c.args.bytes.now c.loop-byte.byte-index c.loop-byte.value c.loop-byte-test.true digit c.loop-byte.invariant.value in
    record {
      digits = more_digits c.args.bytes.now c.loop-byte.byte-index c.loop-byte-test.true digit c.loop-byte.invariant.digits;
      fits = omega arith;
      value = omega arith;
    }

pub returns : goal.returns
returns c = grind (arith, nat_tests, take_all, eqb-false, value_is)
