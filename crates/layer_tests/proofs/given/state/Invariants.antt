use Rattle.std.proofs.Common.{◌≡◌, length}
use Rattle.layer_tests.proofs.given.state.Given as goal

-- a bit for each turn so far
abbrev pub invariant-loop : goal.invariant-loop
invariant-loop l = length l.bits.items ≡ l.counter
