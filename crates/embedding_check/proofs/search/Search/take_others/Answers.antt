use Rattle.embedding_check.proofs.Common.{◌≡◌, ◌+◌, inl, inr, arith, sym, ap, ◌∙◌, cases_eq, Others}
use Rattle.std.proofs.Common.{Some}
use Rattle.embedding_check.proofs.Taking.{takes_none, takes_both, done_stays}
use Rattle.embedding_check.proofs.search.Search.take_others.Goals as goal

pub loop-k-init : goal.loop-k-init
loop-k-init g c =
    let start = ap (λ (o : Others). o.start) c.others-others.ensures in
    record {
      takes = takes_none _ _ _ _;
      done = λ i h x. absurd (omega (arith, x.1.from, x.1.below, start));
    }

pub take_number-requires : goal.take_number-requires
take_number-requires g c = record {
  same = c.loop-k.invariant.takes.moves.waits ∙ c.requires.same;
  qubit = c.requires.qubit;
  within = c.requires.within;
  rising = c.requires.rising;
}

pub loop-k-preserved : goal.loop-k-preserved
loop-k-preserved g c =
    let graph = c.args.hardware.now in
    let joined = g.H.Hardware.joined graph in
    let qs = c.args.sorted.now in
    let q = c.args.qubit in
    let k = c.loop-k.k in
    let other = g.H.Hardware.other graph q in
    let step = c.in_ok-take_number.ensures in
    record {
      takes = takes_both joined qs q c.args.self.now c.loop-k.self c.take_number.new.self c.loop-k.invariant.takes step.takes;
      done = λ i h x. elim (cases_eq x.0 k) [
        | inl same ↦ step.done i h (ap Some (c.other.ensures ∙ ap other (sym same) ∙ x.2))
        | inr apart ↦
            done_stays joined qs q c.loop-k.self c.take_number.new.self i step.takes h
            (c.loop-k.invariant.done i h (x.0, record { from = x.1.from; below = omega (arith, x.1.below, apart) }, x.2))
      ];
    }

pub returns : goal.returns
returns g c =
    let graph = c.args.hardware.now in
    let start = ap (λ (o : Others). o.start) c.others-others.ensures in
    let end = ap (λ (o : Others). o.end) c.others-others.ensures in
    let ordered = g.met.H.Hardware.ordered graph c.args.qubit in
    record {
      takes = c.loop-k.invariant.takes;
      done = λ i h x. c.loop-k.invariant.done i h (
        x.0,
        record {
          from = x.1.from;
          below = omega (arith, x.1.below, start, end, ordered, c.loop-k.auto.k-end, c.loop-k-test.false);
        },
        x.2,
      );
    }
