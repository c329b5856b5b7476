use Rattle.std.proofs.Common.{◌≡◌, ◌++◌}
use Rattle.literal_lists.proofs.literals.Literals.copy_into.Given as goal

-- the literals so far and those that are left are all
abbrev pub invariant-loop-literal : goal.invariant-loop-literal
invariant-loop-literal l = l.list.items ++ l.literal-iterator ≡ l.fn.self
