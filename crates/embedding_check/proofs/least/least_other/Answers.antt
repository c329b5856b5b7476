use Rattle.embedding_check.proofs.Common.{◌≡◌, ℕ, ◌+◌, ◌<◌, ◌⊎◌, inl, inr, arith, sym, ap, ◌∙◌}
use Rattle.std.proofs.Common.{Some}
use Rattle.std.proofs.lemmas.Bool.{cases_eq}
use Rattle.std.proofs.lemmas.Option.{same_Some}
use Rattle.embedding_check.specs.Least.{IsLeast, IsNumberedAhead}
use Rattle.embedding_check.proofs.Noting.{least_of_two, least_same}
use Rattle.hardware.specs.declared.hardware.Others.{Others}
use Rattle.embedding_check.specs.Least.{IsOtherAhead}
use Rattle.embedding_check.proofs.least.least_other.Goals as goal

pub loop-k-init : goal.loop-k-init
loop-k-init g c = λ b f.
    let start = ap (λ (o : Others). o.start) c.others-others.ensures in
    omega (arith, f.is.1.from, f.is.1.below, start)

pub loop-k-preserved : goal.loop-k-preserved
loop-k-preserved g c =
    let graph = c.args.hardware.now in
    let joined = g.H.Hardware.joined graph in
    let a = c.args.a in
    let chain = c.args.chain.now in
    let k = c.loop-k.k in
    let other = g.H.Hardware.other graph a in
    let first = (g.H.Hardware.others graph a).start in
    let start = ap (λ (o : Others). o.start) c.others-others.ensures in
    let S = IsOtherAhead joined a chain (record { start = first; end = k }) other in
    let T = IsNumberedAhead joined a chain (Some c.other.result) in
    let both = least_of_two S T c.loop-k.least c.numbered-one.result c.lesser-least.result
    c.loop-k.invariant c.numbered-one.ensures c.lesser-least.ensures.left c.lesser-least.ensures.right
    c.lesser-least.ensures.both in
    least_same (λ b. S b ⊎ T b)
    (IsOtherAhead joined a chain (record { start = first; end = k + 1 }) other) c.lesser-least.result
    (λ b. elim [
      | inl s ↦ record {
        ahead = s.ahead;
        is = (s.is.0, record { from = s.is.1.from; below = omega (arith, s.is.1.below) }, s.is.2);
      }
      | inr t ↦ record {
        ahead = t.ahead;
        is = (
          k,
          record { from = omega (arith, start, c.loop-k.auto.k); below = omega arith },
          sym c.other.ensures ∙ same_Some _ _ t.is,
        );
      }
    ])
    (λ b s. elim (cases_eq s.is.0 k) [
      | inl same ↦ inr (record {
        ahead = s.ahead;
        is = ap Some (c.other.ensures ∙ ap other (sym same) ∙ s.is.2);
      })
      | inr apart ↦ inl (record {
        ahead = s.ahead;
        is = (s.is.0, record { from = s.is.1.from; below = omega (arith, s.is.1.below, apart) }, s.is.2);
      })
    ]) both

pub returns : goal.returns
returns g c =
    let graph = c.args.hardware.now in
    let joined = g.H.Hardware.joined graph in
    let a = c.args.a in
    let chain = c.args.chain.now in
    let other = g.H.Hardware.other graph a in
    let others = g.H.Hardware.others graph a in
    let start = ap (λ (o : Others). o.start) c.others-others.ensures in
    let end = ap (λ (o : Others). o.end) c.others-others.ensures in
    let ordered = g.met.H.Hardware.ordered graph a in
    let S = IsOtherAhead joined a chain (record { start = others.start; end = c.loop-k.k }) other in
    least_same S (IsOtherAhead joined a chain others other) c.loop-k.least
    (λ b s. record {
      ahead = s.ahead;
      is = (
        s.is.0,
        record {
          from = s.is.1.from;
          below = omega (arith, s.is.1.below, start, end, ordered, c.loop-k.auto.k-end, c.loop-k-test.false);
        },
        s.is.2,
      );
    })
    (λ b s. record {
      ahead = s.ahead;
      is = (
        s.is.0,
        record {
          from = s.is.1.from;
          below = omega (arith, s.is.1.below, start, end, ordered, c.loop-k.auto.k-end, c.loop-k-test.false);
        },
        s.is.2,
      );
    }) c.loop-k.invariant
