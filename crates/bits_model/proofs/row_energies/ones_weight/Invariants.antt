use Rattle.bits_model.proofs.Common.{◌≡◌, ◌≤◌, unsigned_abs, take, total_by, weight_total}
use Rattle.bits_model.proofs.RowEnergies.{second_weight}
use Rattle.bits_model.proofs.row_energies.ones_weight.Given as goal

-- the entries before this one are summed, and weigh no less than the sum
abbrev pub invariant-loop-i : goal.invariant-loop-i
invariant-loop-i l = record {
  summed : l.sum ≡ total_by (second_weight l.y) (take l.i l.row);
  small : unsigned_abs l.sum ≤ weight_total (take l.i l.row);
}
