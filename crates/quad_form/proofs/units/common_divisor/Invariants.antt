use Rattle.quad_form.proofs.Common.{ℕ, IsGcd}
use Rattle.quad_form.proofs.units.common_divisor.Given as goal

-- the numbers left have no other greatest common divisor than those at first
abbrev pub invariant-loop-less : goal.invariant-loop-less
invariant-loop-less l = (k : ℕ) → IsGcd l.greater l.less k → IsGcd l.a l.b k

abbrev pub decreases-loop-less : goal.decreases-loop-less
decreases-loop-less l = l.less
