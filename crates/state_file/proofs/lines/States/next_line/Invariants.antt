use Rattle.state_file.proofs.Common.{◌≡◌, ◌+◌, ◌<◌, ◌^◌, length, option_copied, lines_left, states_from}
use Rattle.state_file.proofs.lines.States.next_line.Given as goal

-- no state was passed, and the number of each line that is left fits its field
abbrev pub invariant-loop-self : goal.invariant-loop-self
invariant-loop-self l = record {
  left : states_from l.self-inside.width (l.self-inside.number + 1) (lines_left (option_copied l.self-inside.rest)) ≡ l.fn.self.states;
  same : l.self-inside.width ≡ l.fn.self.width;
  room : l.self-inside.number + length (lines_left (option_copied l.self-inside.rest)) < 2 ^ 64;
}

abbrev pub decreases-loop-self : goal.decreases-loop-self
decreases-loop-self l = length (lines_left (option_copied l.self-inside.rest))
