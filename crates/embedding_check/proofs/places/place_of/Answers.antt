use Rattle.embedding_check.proofs.Common.{◌<◌, length, arith, chain_of}
use Rattle.embedding_check.proofs.Faulty.{place_same, sorted_within}
use Rattle.embedding_check.proofs.places.place_of.Goals as goal

pub place_between-requires-clause-from : goal.place_between-requires-clause-from
place_between-requires-clause-from g c =
    let first = c.args.first in
    let below : first < length c.args.chains.now = omega arith in
    rw c.list.ensures.listed
    (sorted_within _ (chain_of c.args.chains.now first) (chain_of c.args.sorted.now first)
    (c.requires.within first below) (c.requires.sorted first below))

pub place_between-requires-clause-to : goal.place_between-requires-clause-to
place_between-requires-clause-to g c =
    rw c.list-2.ensures.listed
    (sorted_within _ (chain_of c.args.chains.now _) (chain_of c.args.sorted.now _)
    (c.requires.within _ c.requires.node) (c.requires.sorted _ c.requires.node))

pub returns : goal.returns
returns g c =
    let joined = g.H.Hardware.joined c.args.hardware.now in
    let chains = c.args.chains.now in
    let sorted = c.args.sorted.now in
    let first = c.args.first in
    let second = c.args.second in
    let below : first < length c.args.chains.now = omega arith in
    let r = c.place_between.result in
    place_same joined (chain_of chains first) (chain_of chains second) (chain_of sorted first)
    (chain_of sorted second) r (c.requires.sorted first below)
    (c.requires.sorted second c.requires.node) (rw (← c.list.ensures.listed)
    (rw (← c.list-2.ensures.listed) c.place_between.ensures))
