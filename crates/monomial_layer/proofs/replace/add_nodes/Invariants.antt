use Rattle.monomial_layer.proofs.Common.{Fills, node_terms}
use Rattle.monomial_layer.proofs.replace.add_nodes.Given as goal

-- the terms of the nodes so far were added
abbrev pub invariant-loop-place : goal.invariant-loop-place
invariant-loop-place g l =
    Fills g.G.Gather.takes g.G.Gather.holds l.fn.terms l.terms
    (node_terms l.literals l.fn.coefficient l.fn.next l.place)
