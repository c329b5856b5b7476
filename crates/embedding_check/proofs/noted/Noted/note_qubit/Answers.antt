use Rattle.embedding_check.proofs.Common.{◌≡◌, ℕ, ◌<◌, ◌⊎◌, inl, inr, true, arith, CanBeJoined, IsSpanJoin, IsOthersJoin, IsQubitJoin}
use Rattle.embedding_check.proofs.Noting.{notes_same, notes_both, done_later}
use Rattle.embedding_check.proofs.noted.Noted.note_qubit.Goals as goal

pub returns-clause-noted : goal.returns-clause-noted
returns-clause-noted g c =
    let graph = c.args.hardware.now in
    let joined = g.H.Hardware.joined graph in
    let a = c.args.a in
    let span = g.H.Hardware.facing graph a in
    let others = g.H.Hardware.others graph a in
    let other = g.H.Hardware.other graph a in
    let S = IsSpanJoin joined _ _ a span in
    let O = IsOthersJoin joined _ _ a others other in
    notes_same (λ v p. S v p ⊎ O v p) (IsQubitJoin joined _ _ a) _
    c.note_others.new.self (λ v p low. elim [
      | inl y ↦ (y.0, y.2)
      | inr y ↦ (y.0, y.2)
    ]) (λ v p low x. elim (g.met.H.Hardware.findable graph a x.0 c.requires.qubit (omega (arith, x.1.below)) x.1.linked) [
      | inl faced ↦ inl (x.0, faced, x.1)
      | inr is ↦ inr (x.0, is, x.1)
    ]) (notes_both S O _ c.note_faced-next.new.self c.note_others.new.self c.note_faced-next.ensures.noted
    c.note_others.ensures)

pub returns-clause-done : goal.returns-clause-done
returns-clause-done g c =
    let graph = c.args.hardware.now in
    done_later (IsOthersJoin (g.H.Hardware.joined graph) _ _ c.args.a (g.H.Hardware.others graph c.args.a) (g.H.Hardware.other graph c.args.a)) _ _
    c.note_faced-next.new.self c.note_others.new.self c.note_others.ensures c.note_faced-next.result
    c.note_faced-next.ensures.done
