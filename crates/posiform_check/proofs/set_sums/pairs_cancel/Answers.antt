use Rattle.posiform_check.proofs.Sums.{pairs-step, pairs-end}
use Rattle.posiform_check.proofs.set_sums.pairs_cancel.Goals as goal

pub loop-pair-preserved : goal.loop-pair-preserved
loop-pair-preserved c =
    pairs-step _ _ _ _ _ c.loop-pair-test.true c.loop-pair.invariant c.in-Some.ensures

pub returns : goal.returns
returns c = λ t.
    pairs-end _ _ _ c.loop-pair-test.false (c.is_settled.ensures t) c.loop-pair.invariant
