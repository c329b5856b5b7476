use Rattle.model_text.proofs.Common.{drop, spaced_numbers}
use Rattle.model_text.proofs.Puts.{IsPut}
use Rattle.model_text.proofs.lines.put_qubits.Given as goal

-- the qubits before this one were put
abbrev pub invariant-loop-qubit : goal.invariant-loop-qubit
invariant-loop-qubit g l =
    IsPut (g.S.Sink.taken l.fn.sink) (g.S.Sink.taken l.sink) (g.S.Sink.faults l.fn.sink) (g.S.Sink.faults l.sink)
    l.fn.buffer l.buffer (spaced_numbers l.qubits) (spaced_numbers (drop l.qubit-index l.qubits))
