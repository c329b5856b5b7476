use Rattle.std.proofs.Common.{rules}
use Rattle.program_run.proofs.Pieces.{no_room, no_true, too_long}
use Rattle.program_run.proofs.one_write.joined.Goals as goal

pub returns-then-is_err-clause-room : goal.returns-then-is_err-clause-room
returns-then-is_err-clause-room c =
    let over = too_long c.try_extend_from_slice.result _ 4096 (search rules) c.try_extend_from_slice.ensures.variant.1 in
    let none = no_room c.loop-piece.line.items c.loop-piece.piece-index c.args.pieces.now _ 4096
    c.loop-piece.invariant.0 c.loop-piece-test.true over in
    (λ no. absurd (no_true no), none)
