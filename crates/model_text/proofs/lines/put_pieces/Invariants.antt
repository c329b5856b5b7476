use Rattle.model_text.proofs.Common.{drop, joined_bytes}
use Rattle.model_text.proofs.Puts.{IsPut}
use Rattle.model_text.proofs.lines.put_pieces.Given as goal

-- the pieces before this one were put
abbrev pub invariant-loop-piece : goal.invariant-loop-piece
invariant-loop-piece g l =
    IsPut (g.S.Sink.taken l.fn.sink) (g.S.Sink.taken l.sink) (g.S.Sink.faults l.fn.sink) (g.S.Sink.faults l.sink)
    l.fn.buffer l.buffer (joined_bytes l.pieces) (joined_bytes (drop l.piece-index l.pieces))
