use Rattle.program_run.proofs.Common.{◌≡◌, ℕ, [], ◌<◌, length, get_or, decoding_of, assignment}
use Rattle.program_run.proofs.judging.put_all.Given as goal

-- what the states so far decode to is put
abbrev pub invariant-loop-k : goal.invariant-loop-k
invariant-loop-k l = record {
  put : (j : ℕ) → j < l.k → assignment l.together j ≡ (decoding_of l.model).decoded (get_or l.states j []);
  variables : length l.together ≡ length l.fn.together;
}
