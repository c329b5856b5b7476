use Rattle.program_run.proofs.Common.{◌≡◌, ℕ, [], ◌<◌, get_or, judgement_by, Infinite}
use Rattle.program_run.proofs.judging.costs_in_turn.Given as goal

-- the costs of the states so far are known
abbrev pub invariant-loop-k : goal.invariant-loop-k
invariant-loop-k l = record {
  costs : (j : ℕ) → j < l.k → get_or l.costs j Infinite ≡ (judgement_by l.read l.model).cost (get_or l.states j []);
}
