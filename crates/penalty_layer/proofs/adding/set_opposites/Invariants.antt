use Rattle.penalty_layer.proofs.Common.{◌≡◌, ◌++◌, map, opposite}
use Rattle.penalty_layer.proofs.adding.set_opposites.Given as goal

-- the complements so far, with those of the literals that are left, are all
abbrev pub invariant-loop-literal : goal.invariant-loop-literal
invariant-loop-literal l = l.list.items ++ map opposite l.literal-iterator ≡ map opposite l.fn.literals
