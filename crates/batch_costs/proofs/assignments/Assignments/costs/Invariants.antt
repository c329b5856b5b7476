use Rattle.batch_costs.proofs.Common.{◌≡◌, ℕ, ◌<◌, get_or, own_cost, assignment}
use Rattle.base.specs.declared.costs.Cost.TheVariants.{Infinite}
use Rattle.batch_costs.proofs.assignments.Assignments.costs.Given as goal

-- the costs so far are those of the first assignments
abbrev pub invariant-loop-k : goal.invariant-loop-k
invariant-loop-k l = record {
  costs : (j : ℕ) → j < l.k → get_or l.costs j Infinite ≡ own_cost l.fn.problem (assignment l.self j);
}
