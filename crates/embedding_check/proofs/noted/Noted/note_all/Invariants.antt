use Rattle.embedding_check.proofs.Common.{IfSome, Notes, IsChainJoin, AreNotedFrom}
use Rattle.embedding_check.proofs.noted.Noted.note_all.Given as goal

-- the joins of the qubits so far are noted
abbrev pub invariant-loop-k : goal.invariant-loop-k
invariant-loop-k g l = record {
  noted : Notes (IsChainJoin (g.H.Hardware.joined l.hardware) l.owners l.node l.chain l.k)
      l.fn.self l.self;
  done : IfSome l.done (λ p. AreNotedFrom l.self l.owners l.node p.0 p.1);
}
