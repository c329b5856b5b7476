use Rattle.monomial_layer.proofs.Common.{drop, Rest, pair_terms}
use Rattle.monomial_layer.proofs.replace.add_pairs.Given as goal

-- the pairs of the literals so far were added
abbrev pub invariant-loop-i : goal.invariant-loop-i
invariant-loop-i g l =
    Rest g.G.Gather.takes g.G.Gather.holds l.fn.terms l.terms
    (pair_terms (drop l.i l.literals) l.fn.coefficient) (pair_terms l.literals l.fn.coefficient)
