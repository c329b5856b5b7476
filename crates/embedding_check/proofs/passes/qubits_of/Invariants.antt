use Rattle.std.proofs.Common.{◌≡◌, take}
use Rattle.embedding_check.proofs.passes.qubits_of.Given as goal

abbrev pub invariant-loop-node : goal.invariant-loop-node
invariant-loop-node l = l.chains ≡ take l.node l.map
