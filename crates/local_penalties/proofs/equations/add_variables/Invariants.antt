use Rattle.local_penalties.proofs.Common.{◌≡◌, ◌++◌, map, Literal}
use Rattle.local_penalties.proofs.equations.add_variables.Given as goal

-- what is there so far, and the variables of the literals that are left, is all
abbrev pub invariant-loop-literal : goal.invariant-loop-literal
invariant-loop-literal l =
    l.buffer.items ++ map (λ (m : Literal). m.variable) l.literal-iterator
    ≡ l.fn.buffer.items ++ map (λ (m : Literal). m.variable) l.fn.literals
