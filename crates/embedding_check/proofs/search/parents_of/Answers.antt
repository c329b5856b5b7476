use Rattle.embedding_check.proofs.Faulty.{sorted_within}
use Rattle.embedding_check.proofs.search.parents_of.Goals as goal

pub search_chain-requires-clause-within : goal.search_chain-requires-clause-within
search_chain-requires-clause-within g c =
    sorted_within _ c.args.chain.now c.args.sorted.now (λ j h. c.requires.within j 0 h) c.requires.sorted

pub returns : goal.returns
returns g c =
    c.found_parents.ensures (g.H.Hardware.joined c.args.hardware.now) c.in_ok-search.ensures
