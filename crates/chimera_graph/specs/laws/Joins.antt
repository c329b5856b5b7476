-- Joins go both ways, and between two places. Nothing here has to be believed.
use Rattle.std.specs.Prelude.{◌≡◌, false}
use Rattle.std.proofs.Common.{arith}
use Rattle.std.proofs.Math.Bool.{or_comm}
use Rattle.std.proofs.lemmas.Bool.Decides.{nat_tests}
use Rattle.chimera_graph.specs.declared.place.Place.{Place}
use Rattle.chimera_graph.specs.Places.{is_join, are_joined}

-- both ways, as every hardware is to show
pub are_joined-comm : (p q : Place) → are_joined p q ≡ are_joined q p
are_joined-comm p q = or_comm (is_join p q) (is_join q p)

-- no place is joined to itself
pub are_joined-self : (p : Place) → are_joined p p ≡ false
are_joined-self p = grind (arith, nat_tests)
