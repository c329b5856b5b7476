use Rattle.embedding_check.proofs.Common.{◌+◌, inl, inr, arith, cases_eq, qubit_at, IsQubitJoin, IsChainJoin}
use Rattle.embedding_check.proofs.Noting.{notes_same, notes_both}
use Rattle.embedding_check.proofs.noted.Noted.note_all.Goals as goal

pub loop-k-preserved : goal.loop-k-preserved
loop-k-preserved g c =
    let k = c.loop-k.k in
    let both = notes_both (IsChainJoin _ _ _ _ k) (IsQubitJoin _ _ _ (qubit_at _ k)) c.args.self.now
    c.loop-k.self c.note_qubit-done.new.self c.loop-k.invariant.noted c.note_qubit-done.ensures.noted in
    record {
      noted = notes_same _ (IsChainJoin _ _ _ _ (k + 1)) c.args.self.now c.note_qubit-done.new.self
          (λ v p low. elim [
            | inl x ↦ (x.0, omega (arith, x.1), x.2)
            | inr x ↦ (k, omega arith, x)
          ]) (λ v p low x. elim (cases_eq x.0 k) [
            | inl e ↦ inr (rw e at x.2)
            | inr e ↦ inl (x.0, omega (arith, x.1, e), x.2)
          ]) both;
      done = c.note_qubit-done.ensures.done;
    }
