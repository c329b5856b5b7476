use Rattle.chain_map.proofs.Common.{◌≡◌, ◌-◌, ◌<◌, ◌≤◌, ◌^◌, true, length, take, list_all, is_ascii_digit, digits_value}
use Rattle.chain_map.proofs.digits.front_digits.Given as goal

-- the bytes so far are digits of this value
abbrev pub invariant-loop-len : goal.invariant-loop-len
invariant-loop-len l = record {
  within : l.len ≤ length l.bytes;
  few : l.len ≤ 19;
  digits : list_all is_ascii_digit (take l.len l.bytes) ≡ true;
  small : l.value < 10 ^ l.len;
  value : l.value ≡ digits_value 10 (take l.len l.bytes);
}

abbrev pub decreases-loop-len : goal.decreases-loop-len
decreases-loop-len l = 19 - l.len
