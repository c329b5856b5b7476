use Rattle.state_file.proofs.Common.{◌≡◌, ◌+◌, length, states_of}
use Rattle.state_file.proofs.lines.count_states.Given as goal

-- the states that were counted and those that are left are all
abbrev pub invariant-loop-states : goal.invariant-loop-states
invariant-loop-states l = l.count + length l.states.states ≡ length (states_of l.width l.text)

abbrev pub decreases-loop-states : goal.decreases-loop-states
decreases-loop-states l = length l.states.states
