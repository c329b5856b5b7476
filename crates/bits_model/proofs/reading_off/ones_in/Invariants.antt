use Rattle.bits_model.proofs.Common.{◌≡◌, take, ones_in}
use Rattle.bits_model.proofs.reading_off.ones_in.Given as goal

-- the ones of the qubits so far
abbrev pub invariant-loop-qubit : goal.invariant-loop-qubit
invariant-loop-qubit l = l.ones ≡ ones_in l.y (take l.qubit-index l.chain)
