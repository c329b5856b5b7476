use Rattle.monomial_layer.proofs.Common.{nat_tests, ◌≡◌, add-one, arith, append_assoc}
use Rattle.monomial_layer.proofs.bits.push_taken.Goals as goal

pub loop-place-preserved : goal.loop-place-preserved
loop-place-preserved c = grind (arith, nat_tests, append_assoc, add-one)

pub returns : goal.returns
returns c = let all : c.loop-place.place ≡ c.args.nodes = omega arith in cc (c.loop-place.invariant)
