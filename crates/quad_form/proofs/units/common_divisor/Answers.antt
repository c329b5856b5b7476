use Rattle.std.proofs.lemmas.Nat.Gcd.{IsGcd-from_zero, IsGcd-from_mod}
use Rattle.quad_form.proofs.units.common_divisor.Goals as goal

pub loop-less-preserved : goal.loop-less-preserved
loop-less-preserved c = λ k h. c.loop-less.invariant k (IsGcd-from_mod _ _ k h)

pub returns : goal.returns
returns c = c.loop-less.invariant _ (IsGcd-from_zero _ _ c.loop-less-test.false)
