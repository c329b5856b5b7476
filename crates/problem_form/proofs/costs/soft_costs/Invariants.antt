use Rattle.problem_form.proofs.Lemmas.{sum_by, total_by, soft_cost, soft_weight, Sums}
use Rattle.problem_form.proofs.costs.soft_costs.Given as goal

-- the costs so far and those of the clauses that are left are the whole
abbrev pub invariant-loop-clause : goal.invariant-loop-clause
invariant-loop-clause l =
    Sums (soft_cost l.x) soft_weight l.sum l.clause-iterator
    (total_by (soft_cost l.x) l.clauses) (sum_by soft_weight l.clauses)
