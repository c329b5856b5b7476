use Rattle.monomial_layer.proofs.Common.{◌≡◌, ◌++◌, first_values, is_taken}
use Rattle.monomial_layer.proofs.bits.push_taken.Given as goal

-- the bits of the nodes so far were appended
abbrev pub invariant-loop-place : goal.invariant-loop-place
invariant-loop-place l = l.bits.items ≡ l.fn.bits.items ++ first_values (is_taken l.count) l.place
