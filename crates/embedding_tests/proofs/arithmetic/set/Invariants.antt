use Rattle.std.proofs.Common.{◌≡◌, length}
use Rattle.embedding_tests.proofs.arithmetic.set.Given as goal

-- there are as many bits as before
abbrev pub invariant-loop-place : goal.invariant-loop-place
invariant-loop-place l = length l.y ≡ length l.initial.y
