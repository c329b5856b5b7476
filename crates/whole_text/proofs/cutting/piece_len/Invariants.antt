use Rattle.whole_text.proofs.Common.{take, IsBegun}
use Rattle.whole_text.proofs.cutting.piece_len.Given as goal

-- the bytes so far are the front of one token
abbrev pub invariant-loop-i : goal.invariant-loop-i
invariant-loop-i l = IsBegun l.style (take l.i l.bytes)
