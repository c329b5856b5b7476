use Rattle.program_run.proofs.Common.{◌≡◌, ℕ, ◌<◌, [], pos, get_or, energy, form_of}
use Rattle.program_run.proofs.judging.energies_in_turn.Given as goal

-- the energies of the states so far are known
abbrev pub invariant-loop-k : goal.invariant-loop-k
invariant-loop-k l = record {
  energies : (j : ℕ) → j < l.k → get_or l.energies j (pos 0) ≡ energy (form_of l.model) (get_or l.states j []);
}
