use Rattle.quadratization.proofs.Common.{◌≡◌, ◌++◌, drop, flat_map, extension, new_bits}
use Rattle.quadratization.proofs.long_table.LongTable.extended.Given as goal

-- the bits so far, and those of the terms that are left, are the extension
abbrev pub invariant-loop-i : goal.invariant-loop-i
invariant-loop-i l =
    l.bits.items ++ flat_map (new_bits l.x) (drop l.i l.self.terms) ≡ extension l.x l.self.terms
