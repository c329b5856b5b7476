use Rattle.std.proofs.Common.{◌≡◌, ◌≤◌, length}
use Rattle.program_run.proofs.Pieces.{front_bytes}
use Rattle.program_run.proofs.one_write.joined.Given as goal

abbrev pub invariant-loop-piece : goal.invariant-loop-piece
invariant-loop-piece l =
    (l.line.items ≡ front_bytes l.piece-index l.fn.pieces) × (length l.line.items ≤ 4096)
