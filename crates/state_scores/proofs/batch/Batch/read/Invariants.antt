use Rattle.state_scores.proofs.Common.{◌≡◌, ◌≤◌, ◌++◌, length, All, zip}
use Rattle.state_scores.proofs.batch.Batch.read.Given as goal

-- the states so far were taken off the front
abbrev pub invariant-loop-states : goal.invariant-loop-states
invariant-loop-states l = record {
  front : l.fn.states.states ≡ zip l.self.lines.items l.self.states ++ l.states.states;
  numbered : length l.self.lines.items ≡ length l.self.states;
  room : length l.self.costs.items ≡ length l.self.states;
  measured : length l.self.energies.items ≡ length l.self.states;
  wide : All (λ state. length state ≡ l.fn.states.width) l.self.states;
  few : length l.self.states ≤ 64;
  width : l.states.width ≡ l.fn.states.width;
  space : length l.bits ≡ l.states.width;
}

abbrev pub decreases-loop-states : goal.decreases-loop-states
decreases-loop-states l = length l.states.states
