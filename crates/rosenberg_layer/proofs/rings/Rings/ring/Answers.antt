use Rattle.rosenberg_layer.proofs.Common.{length, ap, arith, length-parts}
use Rattle.rosenberg_layer.proofs.rings.Rings.ring.Goals as goal

pub part-requires-clause-within : goal.part-requires-clause-within
part-requires-clause-within c =
    omega (arith, ap length c.self.view_is, length-parts, ap length c.deref-2.ensures.value)
