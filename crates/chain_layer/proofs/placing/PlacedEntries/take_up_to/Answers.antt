use Rattle.chain_layer.proofs.Common.{subst, refl, arith, nat_tests, AreAbove}
use Rattle.chain_layer.proofs.OneList.{placed_above}
use Rattle.chain_layer.proofs.placing.PlacedEntries.take_up_to.Goals as goal

pub returns-then-place_number-limit : goal.returns-then-place_number-limit
returns-then-place_number-limit c = (
  refl,
  subst (AreAbove c.args.limit) c.self.view_is
      (placed_above c.args.limit c.place_number.result c.self.inside.couplings c.self.inside.places.now _
      (grind (arith, nat_tests, c.if-place_number-limit.true)) (omega (arith, c.place_number.type_inv))
      c.place_number.ensures c.in-len1-up.len_at_least),
)
