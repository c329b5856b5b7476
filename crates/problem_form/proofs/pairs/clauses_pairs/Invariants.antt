use Rattle.problem_form.proofs.Lemmas.{sum_by, clause_pairs, Answered}
use Rattle.problem_form.proofs.pairs.clauses_pairs.Given as goal

-- the pairs so far and those of the clauses that are left are the whole
abbrev pub invariant-loop-clause : goal.invariant-loop-clause
invariant-loop-clause l =
    Answered (clause_pairs l.normal) l.total l.clause-iterator (sum_by (clause_pairs l.normal) l.clauses)
