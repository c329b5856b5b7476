use Rattle.chain_layer.proofs.Common.{arith, IsNonDecreasingBy-from_all_adjacent, place_number}
use Rattle.chain_layer.proofs.merging.ascend.Goals as goal

pub returns : goal.returns
returns c = λ _.
    IsNonDecreasingBy-from_all_adjacent place_number c.args.places.now
    (λ k d in'. c.loop-k.invariant k d (omega (arith, in', c.loop-k-test.false)))
