use Rattle.chain_layer.proofs.Added.{left_next, left_more}
use Rattle.chain_layer.proofs.strengths.add_couplings.Goals as goal

pub raise_ends-requires-clause-ends : goal.raise_ends-requires-clause-ends
raise_ends-requires-clause-ends c =
    (left_next c.args.strengths.now c.loop-coupling.strengths c.args.couplings.now _ _ _ c.in-Some.ensures.steps c.loop-coupling.invariant).0

pub raise_ends-requires-clause-small : goal.raise_ends-requires-clause-small
raise_ends-requires-clause-small c =
    (left_next c.args.strengths.now c.loop-coupling.strengths c.args.couplings.now _ _ _ c.in-Some.ensures.steps c.loop-coupling.invariant).1

pub loop-coupling-preserved : goal.loop-coupling-preserved
loop-coupling-preserved c =
    left_more c.args.strengths.now c.loop-coupling.strengths _ c.args.couplings.now _ _ _ c.in-Some.ensures.steps
    c.loop-coupling.invariant c.raise_ends.ensures.length c.raise_ends.ensures.sums
