use Rattle.working_graph.proofs.Common.{◌≡◌, ℕ, false, length, take, get_or, list_any, qubits_of, is_qubit}
use Rattle.working_graph.proofs.index.marks_of.Given as goal

-- the marks say the parts so far
abbrev pub invariant-loop-k : goal.invariant-loop-k
invariant-loop-k l =
    (length l.marks.items ≡ qubits_of l.graph)
    × ((q : ℕ) → get_or l.marks.items q false ≡ list_any (is_qubit q) (take l.k l.parts))
