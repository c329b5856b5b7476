use Rattle.penalty_layer.proofs.Common.{clause_terms, Rest}
use Rattle.penalty_layer.proofs.adding.add_clauses.Given as goal

-- the clauses so far were added
abbrev pub invariant-loop-clause : goal.invariant-loop-clause
invariant-loop-clause g l =
    Rest g.T.Gather.takes g.T.Gather.holds l.fn.terms l.terms (clause_terms l.penalty l.left l.clause-iterator)
    (clause_terms l.penalty l.own l.clauses)
