use Rattle.edge_io.proofs.Common.{◌≡◌, List, ℕ, ◌++◌, length, Takes}
use Rattle.edge_io.proofs.whole.write_all.Given as goal

-- the front of the piece before the rest was taken
abbrev pub invariant-loop-rest : goal.invariant-loop-rest
invariant-loop-rest g l = record {
  taken : (front : List ℕ) × (l.piece ≡ front ++ l.rest) × Takes (g.S.Sink.taken l.initial.sink) (g.S.Sink.taken l.sink) front;
  later : g.S.Sink.faults l.sink ≡ g.S.Sink.faults l.initial.sink;
}

abbrev pub decreases-loop-rest : goal.decreases-loop-rest
decreases-loop-rest g l = length l.rest
