use Rattle.std.proofs.Common.{◌≡◌, take}
use Rattle.bits_model.proofs.couplers.CouplerList.of.Given as goal

-- the entries so far
abbrev pub invariant-loop-entry : goal.invariant-loop-entry
invariant-loop-entry l = l.list ≡ take l.entry-index l.entries
