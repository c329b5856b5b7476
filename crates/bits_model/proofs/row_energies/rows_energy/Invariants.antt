use Rattle.bits_model.proofs.Common.{◌≡◌, total_by, bits_energy}
use Rattle.bits_model.proofs.EntryRows.{rows_before}
use Rattle.bits_model.proofs.row_energies.rows_energy.Given as goal

-- the rows before this one are summed
abbrev pub invariant-loop-index : goal.invariant-loop-index
invariant-loop-index l = l.energy ≡ total_by (bits_energy l.y) (rows_before l.couplers l.index)
