use Rattle.penalty_layer.proofs.Common.{◌≡◌, ◌<◌, ◌^◌, ◌++◌, flat_map, sum_by, constraint_total, slack_state}
use Rattle.penalty_layer.proofs.slack.extended.Given as goal

-- the bits so far, and those of the constraints that are left, are all
abbrev pub invariant-loop-constraint : goal.invariant-loop-constraint
invariant-loop-constraint l = record {
  whole : l.bits.items ++ flat_map (slack_state l.x) l.constraint-iterator
      ≡ l.x ++ flat_map (slack_state l.x) l.constraints;
  small : sum_by constraint_total l.constraint-iterator < 2 ^ 100;
}
