use Rattle.whole_text.proofs.Common.{◌≡◌, ◌<◌, ◌^◌, true, take, list_all, is_ascii_digit, digits_value}
use Rattle.whole_text.proofs.numbers.few_digits.Given as goal

-- the bytes so far are digits of this value
abbrev pub invariant-loop-byte : goal.invariant-loop-byte
invariant-loop-byte l = record {
  digits : list_all is_ascii_digit (take l.byte-index l.bytes) ≡ true;
  small : l.value < 10 ^ l.byte-index;
  value : l.value ≡ digits_value 10 (take l.byte-index l.bytes);
}
