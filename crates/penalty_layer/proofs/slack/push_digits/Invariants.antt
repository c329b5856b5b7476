use Rattle.penalty_layer.proofs.Common.{◌≡◌, ◌-◌, ◌++◌, digit_bits}
use Rattle.penalty_layer.proofs.slack.push_digits.Given as goal

-- the digits so far, and those of the rest, are all
abbrev pub invariant-loop : goal.invariant-loop
invariant-loop l =
    l.bits.items ++ digit_bits (l.fn.count - l.counter) l.rest l.fn.last
    ≡ l.fn.bits.items ++ digit_bits l.fn.count l.fn.value l.fn.last
