use Rattle.penalty_layer.proofs.Common.{◌≡◌, ◌+◌, ◌<◌, ◌^◌, sum_by, constraint_total, slack_bits, node_count}
use Rattle.penalty_layer.proofs.constraints.node_count.Given as goal

-- the nodes so far, and the slack bits of the constraints that are left, are all
abbrev pub invariant-loop-constraint : goal.invariant-loop-constraint
invariant-loop-constraint l = record {
  whole : l.count + sum_by slack_bits l.constraint-iterator ≡ node_count l.problem;
  small : sum_by constraint_total l.constraint-iterator < 2 ^ 100;
}
