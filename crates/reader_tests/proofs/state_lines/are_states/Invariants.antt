use Rattle.std.proofs.Common.{◌≡◌, length}
use Rattle.reader_tests.proofs.state_lines.are_states.Given as goal

-- the buffer has room for a state
abbrev pub invariant-loop-line : goal.invariant-loop-line
invariant-loop-line l = length l.bits ≡ l.states.width
