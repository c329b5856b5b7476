use Rattle.pair_sums.proofs.Common.{◌+◌, ◌++◌, List, ap, sym, ◌∙◌, arith, drop, unsigned_abs, sum_by-cons, Entry, weight_total, sums_from}
use Rattle.pair_sums.proofs.PairSums.{drop-one}
use Rattle.pair_sums.proofs.pairs.append_sums.Goals as goal

pub add_pending-requires : goal.add_pending-requires
add_pending-requires c =
    let more = drop-one c.args.pairs.now c.loop-i.i c.at.result c.at.ensures.there in
    let own = sum_by-cons (λ (d : Entry). unsigned_abs d.weight) c.at.result (drop (c.loop-i.i + 1) c.args.pairs.now) in
    record { small = omega (arith, c.loop-i.invariant.small, ap weight_total more, own) }

pub loop-i-preserved : goal.loop-i-preserved
loop-i-preserved c =
    let rest = drop (c.loop-i.i + 1) c.args.pairs.now in
    let more = drop-one c.args.pairs.now c.loop-i.i c.at.result c.at.ensures.there in
    let own = sum_by-cons (λ (d : Entry). unsigned_abs d.weight) c.at.result rest in
    record {
      whole =
          c.in_ok-add_pending.ensures.sums rest
          ∙ ap (λ (es : List Entry). c.loop-i.couplers ++ sums_from c.loop-i.pending es) (sym more)
          ∙ c.loop-i.invariant.whole;
      small = omega (arith, c.in_ok-add_pending.ensures.small, c.loop-i.invariant.small, ap weight_total more, own);
    }
