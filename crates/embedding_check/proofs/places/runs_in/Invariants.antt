use Rattle.std.proofs.Common.{◌≤◌, ◌-◌}
use Rattle.embedding_check.proofs.places.runs_in.Given as goal

abbrev pub invariant-runs : goal.invariant-runs
invariant-runs l = l.runs ≤ l.most

abbrev pub decreases-runs : goal.decreases-runs
decreases-runs l = l.most - l.runs
