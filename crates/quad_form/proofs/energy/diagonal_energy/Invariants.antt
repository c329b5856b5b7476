use Rattle.quad_form.proofs.Common.{◌≡◌, ◌≤◌, unsigned_abs, take, total_by, bits_energy, weight_total, node_entries}
use Rattle.quad_form.proofs.energy.diagonal_energy.Given as goal

-- the energy of the nodes so far, and that it is within their weights
abbrev pub invariant-loop-i : goal.invariant-loop-i
invariant-loop-i l = record {
  so_far : l.energy ≡ total_by (bits_energy l.y) (node_entries 0 (take l.i l.diagonal));
  small : unsigned_abs l.energy ≤ weight_total (node_entries 0 (take l.i l.diagonal));
}
