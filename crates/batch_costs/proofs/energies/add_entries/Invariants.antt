use Rattle.batch_costs.proofs.Common.{◌≡◌, ℕ, ◌<◌, pos, length, get_or, unsigned_abs, Sums, total_by, assignment}
use Rattle.bits_model.specs.declared.output.Entry.{Entry}
use Rattle.bits_model.specs.Output.{bits_energy, weight_total}
use Rattle.batch_costs.proofs.energies.add_entries.Given as goal

-- each sum so far and that of the entries that are left are the whole
abbrev pub invariant-loop-entry : goal.invariant-loop-entry
invariant-loop-entry l = record {
  places : length l.sums ≡ 64;
  sums : (k : ℕ) → k < 64
      → Sums (bits_energy (assignment l.words k)) (λ (e : Entry). unsigned_abs e.weight)
      (get_or l.sums k (pos 0)) l.entry-iterator (total_by (bits_energy (assignment l.words k)) l.entries)
      (weight_total l.entries);
}
