use Rattle.embedding_check.proofs.Common.{IsJoin, ◌≡◌, inr, refl, sym, subst, ◌∙◌, arith, IsBefore, ordered, IsRunJoin}
use Rattle.embedding_check.proofs.Noting.{notes_lesser, noted_before, ordered_after, before_trans}
use Rattle.embedding_check.proofs.noted.Noted.note_run.Goals as goal

pub returns-then-joined-clause-noted : goal.returns-then-joined-clause-noted
returns-then-joined-clause-noted g c =
    let joined = g.H.Hardware.joined c.args.hardware.now in
    let a = c.args.a in
    let b = c.args.b in
    let run = c.run_end-then-joined.ensures in
    let pair = c.ordered-from in
    let owner = c.owner-owner in
    notes_lesser (λ v p. (v ≡ owner.result) × (p ≡ (pair.result.0, pair.result.1)))
    (IsRunJoin joined c.args.owners.now c.args.node a b c.lesser-then-joined.result) c.args.self.now c.put.new.self
    (λ v p low x.
    let join : IsJoin joined c.args.owners.now c.args.node a b v p = record {
      below = omega arith;
      owner = sym owner.ensures ∙ sym x.0;
      later = omega (arith, x.0);
      linked = sym c.joined.ensures ∙ c.if-joined.true;
      pair = x.1 ∙ pair.ensures;
    } in
    (b, omega arith, c.lesser-then-joined.ensures.between b run.after c.requires.second, join))
    (λ v p low x.
    let same = sym x.3.owner ∙ run.same x.0 x.1 (omega (arith, x.2)) ∙ sym owner.ensures in
    (ordered a b, inr (same, sym pair.ensures), rw x.3.pair (ordered_after a b x.0 x.1)))
    c.put.ensures

pub returns-then-joined-clause-all : goal.returns-then-joined-clause-all
returns-then-joined-clause-all g c = λ yes x here below later low.
    let a = c.args.a in
    let b = c.args.b in
    let owner = c.owner-owner in
    let pair = c.ordered-from.result in
    let same = c.run_end-then-joined.ensures.same x here.0 (omega (arith, here.1)) ∙ sym owner.ensures in
    let q = noted_before (λ v p. (v ≡ owner.result) × (p ≡ (pair.0, pair.1))) c.args.self.now c.put.new.self
    _ (pair.0, pair.1) c.put.ensures (omega (arith, low)) (inr (same, refl)) in
    let before = subst (IsBefore q.0) c.ordered-from.ensures q.2 in
    (q.0, q.1, before_trans q.0 (ordered a b) (ordered a x) before (ordered_after a b x here.0))
