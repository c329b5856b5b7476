use Rattle.monomial_layer.proofs.Common.{drop, Rest, with_each}
use Rattle.monomial_layer.proofs.replace.add_with_each.Given as goal

-- the products of the literals so far were added
abbrev pub invariant-loop-literal : goal.invariant-loop-literal
invariant-loop-literal g l =
    Rest g.G.Gather.takes g.G.Gather.holds l.fn.terms l.terms
    (with_each l.fn.first l.fn.coefficient (drop l.literal-index l.literals))
    (with_each l.fn.first l.fn.coefficient l.literals)
