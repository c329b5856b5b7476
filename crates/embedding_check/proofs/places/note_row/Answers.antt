use Rattle.embedding_check.proofs.Common.{◌<◌, All, length, get_or, arith, IsCoupler, AreNoted, noted_at}
use Rattle.embedding_check.proofs.PlacedRows.{no_entry}
use Rattle.embedding_check.proofs.Noting.{noted_place}
use Rattle.embedding_check.proofs.Passing.{chain_within}
use Rattle.embedding_check.proofs.places.note_row.Given.{Over}
use Rattle.embedding_check.proofs.places.note_row.Goals.{After-list-own}
use Rattle.embedding_check.proofs.places.note_row.Goals as goal

pub list-own-requires : goal.list-own-requires
list-own-requires g c =
    let coupler : IsCoupler (length c.args.chains.now) (get_or c.args.row.now 0 no_entry) = c.requires.nodes 0 no_entry c.requires.some in
    omega (arith, coupler.upward, coupler.within, c.first-node.ensures 0 no_entry c.requires.some)

-- the qubits of the row's first chain
within : (g : Over) (c : After-list-own g)
    → All (λ q. q < g.H.Hardware.qubits c.args.hardware.now) c.list-own.result.now
within g c =
    let coupler : IsCoupler (length c.args.chains.now) (get_or c.args.row.now 0 no_entry) = c.requires.nodes 0 no_entry c.requires.some in
    chain_within (g.H.Hardware.qubits c.args.hardware.now) c.args.chains.now c.first-node.result
    c.list-own.result.now c.list-own.ensures.listed
    (omega (arith, coupler.upward, coupler.within, c.first-node.ensures 0 no_entry c.requires.some)) c.requires.within

pub is_noting_cheap-requires-clause-within : goal.is_noting_cheap-requires-clause-within
is_noting_cheap-requires-clause-within g c =
    within g (goal.at.is_noting_cheap-requires-clause-within g c).After-list-own

pub note_chain-requires-clause-within : goal.note_chain-requires-clause-within
note_chain-requires-clause-within g c =
    within g (goal.at.note_chain-requires-clause-within g c).After-list-own

pub returns-clause-noted : goal.returns-clause-noted
returns-clause-noted g c = λ yes k d low.
    let joined = g.H.Hardware.joined _ in
    let chains = c.args.chains.now in
    let node = c.first-node.result in
    let noted = c.note_chain.new.self in
    let here : AreNoted joined chains node noted = λ v later below.
    noted_place joined chains _ node v (noted_at noted v) (g.met.H.Hardware.symmetric _)
    (g.met.H.Hardware.irreflexive _) c.requires.owners later below (λ j h. rw c.requires.all
    (c.requires.within v below j h))
    (rw (← c.list-own.ensures.listed) (c.note_chain.ensures.noted v (omega (arith, below)))) in
    rw (c.first-node.ensures k d low) here
