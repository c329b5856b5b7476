use Rattle.local_penalties.proofs.Common.{◌≡◌, ◌-◌, ◌+◌, ◌∙◌, sym, ap}
use Rattle.local_penalties.specs.Rounds.{after_rounds}
use Rattle.local_penalties.proofs.RoundsLeft.{after-one, after-none, after-fixed}
use Rattle.local_penalties.proofs.finding.after_rounds.Goals as goal

pub loop-round-preserved : goal.loop-round-preserved
loop-round-preserved c =
    let p = c.args.problem.now in
    let i = c.loop-round.round in
    record {
      left = ap (after_rounds (8 - (i + 1)) p) c.in_ok-next.ensures
          ∙ sym (after-one i p c.loop-round.found c.loop-round-test.true) ∙ c.loop-round.invariant.left;
      prices = c.enter.ensures;
    }

pub returns : goal.returns
returns c =
    sym (after-none c.loop-round.round c.args.problem.now c.loop-round.found c.loop-round-test.false)
    ∙ c.loop-round.invariant.left

pub returns-then-are_same : goal.returns-then-are_same
returns-then-are_same c =
    let p = c.args.problem.now in
    let found = c.loop-round.found in
    let same : found ≡ c.in_ok-next.next = c.are_same.ensures c.if-are_same.true in
    sym (after-fixed (8 - c.loop-round.round) p found (sym c.in_ok-next.ensures ∙ sym same))
    ∙ c.loop-round.invariant.left
