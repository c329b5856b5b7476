use Rattle.bits_model.proofs.Common.{◌≡◌, ◌+◌, ◌≤◌, ◌^◌, ◌+ℤ◌, unsigned_abs, total_by, bits_energy, weight_total}
use Rattle.bits_model.proofs.row_energies.nodes_energy.Given as goal

-- the energy so far and that of the entries that are left make up the whole, and are small
abbrev pub invariant-loop-entry : goal.invariant-loop-entry
invariant-loop-entry l = record {
  whole : l.energy +ℤ total_by (bits_energy l.y) l.entry-iterator
      ≡ total_by (bits_energy l.y) l.nodes;
  small : unsigned_abs l.energy + weight_total l.entry-iterator ≤ 2 ^ 124;
}
