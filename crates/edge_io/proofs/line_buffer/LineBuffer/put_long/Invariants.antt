use Rattle.edge_io.proofs.Common.{◌≡◌, ◌+◌, List, ℕ, ◌++◌, length, Passes}
use Rattle.edge_io.proofs.line_buffer.LineBuffer.put_long.Given as goal

-- the front of the piece before the rest was put
abbrev pub invariant-loop-rest : goal.invariant-loop-rest
invariant-loop-rest g l = record {
  passed : (front : List ℕ) × (l.piece ≡ front ++ l.rest) × Passes (g.S.Sink.taken l.fn.sink) (g.S.Sink.taken l.sink) l.fn.self l.self front;
  later : g.S.Sink.faults l.sink ≡ g.S.Sink.faults l.fn.sink;
}

abbrev pub decreases-loop-rest : goal.decreases-loop-rest
decreases-loop-rest g l = length l.rest + length l.self
