use Rattle.monomial_layer.proofs.Common.{nat_tests, arith, mono_reaches, IfOk-weaker}
use Rattle.monomial_layer.proofs.monomials.MonomialsLayer.extend.Goals as goal

pub returns-clause-reaches : goal.returns-clause-reaches
returns-clause-reaches c = grind (arith, nat_tests, mono_reaches, IfOk-weaker)
