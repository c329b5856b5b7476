use Rattle.program_run.proofs.Common.{◌≡◌, ℕ, [], ◌<◌, length, get_or, assignment}
use Rattle.program_run.proofs.judging.put_states.Given as goal

-- the states so far are put
abbrev pub invariant-loop-k : goal.invariant-loop-k
invariant-loop-k l = record {
  put : (j : ℕ) → j < l.k → assignment l.words j ≡ get_or l.states j [];
  width : length l.words ≡ length l.fn.words;
}
