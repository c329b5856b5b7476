use Rattle.cut_chains.proofs.Common.{◌≡◌, ◌+◌, ◌∷◌, drop, pos, arith, drop_more, Entry, left_next, left_more}
use Rattle.cut_chains.proofs.weights.add_couplings.Goals.{After-at}
use Rattle.cut_chains.proofs.weights.add_couplings.Goals as goal

-- the couplings that are left begin with this one
next : (c : After-at) → drop c.loop-k.k c.args.couplings.now ≡ c.at.result ∷ drop (c.loop-k.k + 1) c.args.couplings.now
next c =
    let none : Entry = record { first = 0; second = 0; weight = pos 0 } in
    cc (drop_more c.args.couplings.now c.loop-k.k none (omega arith), c.at.ensures.value)

pub raise_ends-requires-clause-ends : goal.raise_ends-requires-clause-ends
raise_ends-requires-clause-ends c =
    (left_next c.args.weights.now c.loop-k.weights c.args.couplings.now _ _ _ (next (goal.at.raise_ends-requires-clause-ends c).After-at) c.loop-k.invariant).0

pub raise_ends-requires-clause-small : goal.raise_ends-requires-clause-small
raise_ends-requires-clause-small c =
    (left_next c.args.weights.now c.loop-k.weights c.args.couplings.now _ _ _ (next (goal.at.raise_ends-requires-clause-small c).After-at) c.loop-k.invariant).1

pub loop-k-preserved : goal.loop-k-preserved
loop-k-preserved c =
    left_more c.args.weights.now c.loop-k.weights _ c.args.couplings.now _ _ _ (next (goal.at.loop-k-preserved c).After-at)
    c.loop-k.invariant c.raise_ends.ensures.length c.raise_ends.ensures.sums
