use Rattle.batch_costs.proofs.Common.{◌≡◌, ℕ, ◌<◌, pos, get_or, total_by, assignment}
use Rattle.bits_model.specs.Output.{bits_energy}
use Rattle.batch_costs.proofs.assignments.Assignments.energies.Given as goal

-- the energies so far are those of the first states
abbrev pub invariant-loop-k : goal.invariant-loop-k
invariant-loop-k l = record {
  energies : (j : ℕ) → j < l.k → get_or l.energies j (pos 0)
      ≡ total_by (bits_energy (assignment l.self j)) l.entries;
}
