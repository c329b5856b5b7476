use Rattle.working_graph.proofs.Common.{◌≡◌, take, numbers_of}
use Rattle.working_graph.proofs.index.numbers_of.Given as goal

-- the numbers of the parts so far
abbrev pub invariant-loop-k : goal.invariant-loop-k
invariant-loop-k l = l.numbers.items ≡ numbers_of (take l.k l.parts)
