use Rattle.whole_text.proofs.Common.{◌≡◌, ◌<◌, ◌^◌, true, take, list_all, is_ascii_digit, digits_value}
use Rattle.whole_text.proofs.numbers.digits.Given as goal

abbrev pub invariant-loop-byte : goal.invariant-loop-byte
invariant-loop-byte l = record {
  digits : list_all is_ascii_digit (take l.byte-index l.bytes) ≡ true;
  fits : l.value < 2 ^ 64;
  value : l.value ≡ digits_value 10 (take l.byte-index l.bytes);
}
