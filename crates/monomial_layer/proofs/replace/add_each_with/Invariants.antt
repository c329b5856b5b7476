use Rattle.monomial_layer.proofs.Common.{drop, Rest, each_with}
use Rattle.monomial_layer.proofs.replace.add_each_with.Given as goal

-- the products of the literals so far were added
abbrev pub invariant-loop-literal : goal.invariant-loop-literal
invariant-loop-literal g l =
    Rest g.G.Gather.takes g.G.Gather.holds l.fn.terms l.terms
    (each_with (drop l.literal-index l.literals) l.fn.last l.fn.coefficient)
    (each_with l.literals l.fn.last l.fn.coefficient)
