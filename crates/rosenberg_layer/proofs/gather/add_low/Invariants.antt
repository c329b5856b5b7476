use Rattle.rosenberg_layer.proofs.Common.{filter, Rest, is_short}
use Rattle.rosenberg_layer.proofs.gather.add_low.Given as goal

-- the terms of degree 2 or less so far were added
abbrev pub invariant-loop-literals : goal.invariant-loop-literals
invariant-loop-literals g l =
    Rest g.G.Gather.takes g.G.Gather.holds l.fn.terms l.terms (filter is_short l.literals-iterator)
    (filter is_short l.table.content.terms)
