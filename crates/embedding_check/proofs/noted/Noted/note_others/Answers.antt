use Rattle.embedding_check.proofs.Common.{◌≡◌, ◌+◌, inl, inr, arith, sym, ap, ◌∙◌, cases_eq, same_Some, Others, IsNumberJoin, IsOthersJoin}
use Rattle.std.proofs.Common.{Some}
use Rattle.embedding_check.proofs.Noting.{notes_none, notes_same, notes_both}
use Rattle.embedding_check.proofs.noted.Noted.note_others.Goals as goal

pub loop-k-init : goal.loop-k-init
loop-k-init g c =
    let start = ap (λ (o : Others). o.start) c.others-others.ensures in
    record { noted = notes_none _ _ (λ v p low x. omega (arith, x.1.1.from, x.1.1.below, start)) }

pub loop-k-preserved : goal.loop-k-preserved
loop-k-preserved g c =
    let graph = c.args.hardware.now in
    let joined = g.H.Hardware.joined graph in
    let a = c.args.a in
    let k = c.loop-k.k in
    let other = g.H.Hardware.other graph a in
    let first = (g.H.Hardware.others graph a).start in
    let start = ap (λ (o : Others). o.start) c.others-others.ensures in
    let S = IsOthersJoin joined _ c.args.node a (record { start = first; end = k }) other in
    let T = IsNumberJoin joined _ c.args.node a (Some c.other.result) in
    let both = notes_both S T c.args.self.now c.loop-k.self c.note_number.new.self c.loop-k.invariant.noted c.note_number.ensures in
    record {
      noted = notes_same _ (IsOthersJoin joined _ c.args.node a (record { start = first; end = k + 1 }) other)
          c.args.self.now c.note_number.new.self
          (λ v p low. elim [
            | inl x ↦ (x.0, (x.1.0, record { from = x.1.1.from; below = omega (arith, x.1.1.below) }, x.1.2), x.2)
            | inr x ↦ (
              x.0,
              (
                k,
                record { from = omega (arith, start, c.loop-k.auto.k); below = omega arith },
                sym c.other.ensures ∙ same_Some _ _ x.1,
              ),
              x.2,
            )
          ]) (λ v p low x. elim (cases_eq x.1.0 k) [
            | inl same ↦ inr (x.0, ap Some (c.other.ensures ∙ ap other (sym same) ∙ x.1.2), x.2)
            | inr apart ↦ inl (x.0, (x.1.0, record { from = x.1.1.from; below = omega (arith, x.1.1.below, apart) }, x.1.2), x.2)
          ]) both;
    }

pub returns : goal.returns
returns g c =
    let graph = c.args.hardware.now in
    let joined = g.H.Hardware.joined graph in
    let a = c.args.a in
    let other = g.H.Hardware.other graph a in
    let others = g.H.Hardware.others graph a in
    let start = ap (λ (o : Others). o.start) c.others-others.ensures in
    let end = ap (λ (o : Others). o.end) c.others-others.ensures in
    let ordered = g.met.H.Hardware.ordered graph a in
    notes_same _ (IsOthersJoin joined _ c.args.node a others other) c.args.self.now c.loop-k.self
    (λ v p low x. (
      x.0,
      (
        x.1.0,
        record {
          from = x.1.1.from;
          below = omega (arith, x.1.1.below, start, end, ordered, c.loop-k.auto.k-end, c.loop-k-test.false);
        },
        x.1.2,
      ),
      x.2,
    ))
    (λ v p low x. (
      x.0,
      (
        x.1.0,
        record {
          from = x.1.1.from;
          below = omega (arith, x.1.1.below, start, end, ordered, c.loop-k.auto.k-end, c.loop-k-test.false);
        },
        x.1.2,
      ),
      x.2,
    )) c.loop-k.invariant.noted
