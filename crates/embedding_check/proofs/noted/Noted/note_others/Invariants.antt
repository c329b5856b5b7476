use Rattle.embedding_check.proofs.Common.{Notes, IsOthersJoin}
use Rattle.embedding_check.proofs.noted.Noted.note_others.Given as goal

-- the joins to the others so far are noted
abbrev pub invariant-loop-k : goal.invariant-loop-k
invariant-loop-k g l = record {
  noted : Notes (IsOthersJoin (g.H.Hardware.joined l.hardware) l.owners l.node l.a
      (record { start = (g.H.Hardware.others l.hardware l.a).start; end = l.k })
      (g.H.Hardware.other l.hardware l.a)) l.fn.self l.self;
}
