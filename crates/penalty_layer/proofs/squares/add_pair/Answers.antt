use Rattle.penalty_layer.proofs.Common.{nat_tests, arith, to_z-of_z, fills_if_ok, fills_none, fills_same, room_as, room_same}
use Rattle.penalty_layer.proofs.SquareSteps.{union_two, union_none}
use Rattle.penalty_layer.proofs.squares.add_pair.Goals as goal

pub gather-requires : goal.gather-requires
gather-requires g c = grind (arith, nat_tests, to_z-of_z, room_as, room_same, union_two)

pub returns-in-Some : goal.returns-in-Some
returns-in-Some g c = grind (arith, nat_tests, to_z-of_z, union_two, fills_if_ok)

pub returns-in-None : goal.returns-in-None
returns-in-None g c = grind (arith, nat_tests, union_none, fills_same, fills_none)
