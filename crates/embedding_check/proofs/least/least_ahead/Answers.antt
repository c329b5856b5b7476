use Rattle.embedding_check.proofs.Common.{ℕ, ◌<◌, CanBeJoined, IsAhead, IsFacedAhead, IsOtherAhead}
use Rattle.embedding_check.proofs.Sorting.{at_of_in}
use Rattle.embedding_check.proofs.Noting.{least_of_two, ahead_ways}
use Rattle.embedding_check.proofs.least.least_ahead.Goals as goal

pub returns : goal.returns
returns g c =
    let graph = c.args.hardware.now in
    let joined = g.H.Hardware.joined graph in
    let chain = c.args.chain.now in
    let a = c.args.a in
    let span = c.facing-span.result in
    let others = g.H.Hardware.others graph a in
    let other = g.H.Hardware.other graph a in
    let findable : (b : ℕ) → IsAhead joined a chain b → CanBeJoined span others other b = λ b h.
    let i = at_of_in chain b h.inside in
    let below : b < g.H.Hardware.qubits graph = rw (← i.2) (c.requires.within i.0 0 i.1) in
    let law = g.met.H.Hardware.findable graph a b c.requires.qubit below h.linked in
    rw c.facing-span.ensures law in
    let all = least_of_two (IsFacedAhead joined a chain span) (IsOtherAhead joined a chain others other)
    c.least_faced-faced.result c.least_other-of_others.result c.lesser.result
    c.least_faced-faced.ensures c.least_other-of_others.ensures c.lesser.ensures.left c.lesser.ensures.right c.lesser.ensures.both in
    ahead_ways joined a chain span others other c.lesser.result findable all
