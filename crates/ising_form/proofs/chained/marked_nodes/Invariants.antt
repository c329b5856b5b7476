use Rattle.ising_form.proofs.ChainedNodes.{AreKept}
use Rattle.ising_form.proofs.chained.marked_nodes.Given as goal

-- the marked nodes so far are listed
abbrev pub invariant-loop-i : goal.invariant-loop-i
invariant-loop-i l = AreKept l.marks l.initial.fields.items l.i l.numbers.items l.fields.items
