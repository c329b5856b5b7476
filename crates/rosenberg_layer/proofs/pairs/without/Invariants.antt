use Rattle.rosenberg_layer.proofs.Common.{◌≡◌, ◌++◌, drop, without}
use Rattle.rosenberg_layer.proofs.pairs.without.Given as goal

-- the literals so far, and those that are left
abbrev pub invariant-loop-other : goal.invariant-loop-other
invariant-loop-other l = l.left.items ++ without l.literal (drop l.other-index l.literals) ≡ without l.literal l.literals
