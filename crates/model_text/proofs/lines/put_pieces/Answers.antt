use Rattle.model_text.proofs.Common.{arith, [], Bor, List, ℕ, ap, drop_more, joined_bytes}
use Rattle.model_text.proofs.Puts.{put_none, put_more, put_fault}
use Rattle.model_text.proofs.lines.put_pieces.Goals as goal

-- an empty piece, for an index that is out of range; none is
abbrev no_piece : Bor (List ℕ)
no_piece = record { ref_ptr = (0, 0); now = [] }

pub returns-in_err-put : goal.returns-in_err-put
returns-in_err-put g c =
    let pieces = c.args.pieces.now in
    let cut = ap joined_bytes (drop_more pieces c.loop-piece.piece-index no_piece (omega arith)) in
    put_fault _ _ c.from_residual.ensures.1 cut c.loop-piece.invariant
    (record { passed = c.in_err-put.ensures.passed; front = c.in_err-put.ensures.front; lost = c.in_err-put.ensures.lost; cause = c.in_err-put.ensures.cause })

pub loop-piece-preserved : goal.loop-piece-preserved
loop-piece-preserved g c =
    let pieces = c.args.pieces.now in
    let cut = ap joined_bytes (drop_more pieces c.loop-piece.piece-index no_piece (omega arith)) in
    put_more cut c.loop-piece.invariant
    (record { passed = c.in_ok-put.ensures.passed; front = c.in_ok-put.ensures.front; lost = c.in_ok-put.ensures.lost; cause = c.in_ok-put.ensures.cause })

pub loop-piece-init : goal.loop-piece-init
loop-piece-init g c = put_none
