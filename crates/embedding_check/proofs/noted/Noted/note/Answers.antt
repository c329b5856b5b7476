use Rattle.embedding_check.proofs.Common.{◌≡◌, ◌∙◌, sym, arith, IsJoin}
use Rattle.embedding_check.proofs.Noting.{notes_same}
use Rattle.embedding_check.proofs.noted.Noted.note.Goals as goal

pub returns-then-joined : goal.returns-then-joined
returns-then-joined g c =
    let owner = c.owner-owner.result in
    let pair = c.ordered-from.result in
    notes_same (λ v p. (v ≡ owner) × (p ≡ (pair.0, pair.1)))
    (IsJoin _ c.args.owners.now c.args.node c.args.a c.args.b) c.args.self.now c.put.new.self
    (λ v p low x. record {
      below = omega arith;
      owner = sym c.owner-owner.ensures ∙ sym x.0;
      later = omega (arith, x.0);
      linked = sym c.joined.ensures ∙ c.if-joined.true;
      pair = x.1 ∙ c.ordered-from.ensures;
    }) (λ v p low join. (
      sym join.owner ∙ sym c.owner-owner.ensures,
      join.pair ∙ sym c.ordered-from.ensures,
    )) c.put.ensures
