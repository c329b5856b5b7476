use Rattle.cut_chains.proofs.Noting.{IsNoted}
use Rattle.cut_chains.proofs.orders.note_parents.Given as goal

-- the parents so far
abbrev pub invariant-loop-i : goal.invariant-loop-i
invariant-loop-i l = IsNoted l.initial.up l.up l.chain l.parents l.i
