use Rattle.penalty_layer.proofs.Common.{arith, ap, sum_by, sum_by-cons, constraint_total, slack_bits}
use Rattle.penalty_layer.proofs.Admitted.{nodes_within}
use Rattle.penalty_layer.proofs.constraints.node_count.Goals as goal

pub overflow_add-count : goal.overflow_add-count
overflow_add-count c =
    omega (arith, ap (sum_by slack_bits) c.in-Some.ensures.steps, sum_by-cons, nodes_within)

pub returns-clause-small : goal.returns-clause-small
returns-clause-small c =
    omega (arith, c.loop-constraint.invariant.whole, nodes_within c.args.problem.now c.requires)

pub loop-constraint-preserved : goal.loop-constraint-preserved
loop-constraint-preserved c =
    let step = c.in-Some.ensures.steps in
    record {
      whole = omega (arith, c.loop-constraint.invariant.whole, ap (sum_by slack_bits) step, sum_by-cons, c.slack_bits_of-count.ensures);
      small = omega (arith, c.loop-constraint.invariant.small, ap (sum_by constraint_total) step, sum_by-cons);
    }
