use Rattle.problem_form.proofs.Lemmas.{soft_cost, soft_weight, clause-size, sums_left}
use Rattle.problem_form.proofs.costs.soft_costs.Goals as goal

pub loop-clause-preserved : goal.loop-clause-preserved
loop-clause-preserved c =
    sums_left (soft_cost _) soft_weight _ _ c.in-Some.clause _ _ _ _ c.in-Some.ensures.steps
    c.soft_cost_of-sum.ensures (clause-size _ c.in-Some.clause) c.requires c.loop-clause.invariant
