use Rattle.edge_io.proofs.Common.{◌≡◌, take, Takes, joined_bytes}
use Rattle.edge_io.proofs.whole.write_pieces.Given as goal

-- the pieces before this one were taken whole
abbrev pub invariant-loop-piece : goal.invariant-loop-piece
invariant-loop-piece g l = record {
  taken : Takes (g.S.Sink.taken l.initial.sink) (g.S.Sink.taken l.sink) (joined_bytes (take l.piece-index l.pieces));
  later : g.S.Sink.faults l.sink ≡ g.S.Sink.faults l.initial.sink;
}
