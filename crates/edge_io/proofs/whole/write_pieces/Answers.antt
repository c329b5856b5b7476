use Rattle.std.proofs.Common.{rules, arith, [], Bor, List, ℕ}
use Rattle.edge_io.proofs.Pieces.{pieces_more, pieces_front}
use Rattle.edge_io.proofs.whole.write_pieces.Goals as goal

-- an empty piece, for an index that is out of range; none is
abbrev no_piece : Bor (List ℕ)
no_piece = record { ref_ptr = (0, 0); now = [] }

pub loop-piece-preserved : goal.loop-piece-preserved
loop-piece-preserved g c = record {
  taken = pieces_more _ _ _ c.args.pieces.now c.loop-piece.piece-index no_piece (omega arith)
      c.loop-piece.invariant.taken c.in-Ok.ensures.whole;
  later = search rules;
}

pub returns-in-Err-clause-front : goal.returns-in-Err-clause-front
returns-in-Err-clause-front g c =
    pieces_front _ _ _ c.args.pieces.now c.loop-piece.piece-index no_piece (omega arith)
    c.loop-piece.invariant.taken c.in-Err.ensures.front
