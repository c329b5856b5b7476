use Rattle.local_penalties.proofs.Common.{◌≡◌, map, take, unsigned_abs}
use Rattle.local_penalties.proofs.local.put_sizes.Given as goal

-- the sizes of the coefficients so far
abbrev pub invariant-loop-coefficient : goal.invariant-loop-coefficient
invariant-loop-coefficient l = l.buffer.items ≡ map (λ z. unsigned_abs z) (take l.coefficient-index l.coefficients)
