use Rattle.local_penalties.proofs.Common.{◌≡◌, ◌-ℤ◌, ◌∙◌, true, false, ap, arith, pos, unsigned_abs, int_lt, to_z, of_z, w128, ints, positive_total, positive_total-le}
use Rattle.local_penalties.proofs.LocalSteps.{is_less, is_not_less, no_room, some_room}
use Rattle.local_penalties.proofs.local.room_above.Goals as goal

pub positive_coefficients-most-requires : goal.positive_coefficients-most-requires
positive_coefficients-most-requires c =
    omega (arith, positive_total-le c.args.products, c.requires.small)

pub overflow_cast-most : goal.overflow_cast-most
overflow_cast-most c = omega (arith, ints, positive_total-le)

pub returns-then-most-bound : goal.returns-then-most-bound
returns-then-most-bound c =
    let total = positive_total c.args.products in
    let below : int_lt (pos total) c.args.bound ≡ true =
    is_less (pos total) c.args.bound (omega (arith, ints, positive_total-le)) in
    no_room total c.args.bound below

pub overflow_sub-most : goal.overflow_sub-most
overflow_sub-most c = omega (arith, ints, positive_total-le)

pub returns : goal.returns
returns c =
    let total = positive_total c.args.products in
    let above : int_lt (pos total) c.args.bound ≡ false =
    is_not_less (pos total) c.args.bound (omega (arith, ints, positive_total-le)) in
    let rest : to_z w128 (of_z w128 (to_z w128 c.positive_coefficients-most.result
    -ℤ to_z w128 (of_z w128 c.args.bound))) ≡ pos total -ℤ c.args.bound =
    omega (arith, ints, positive_total-le) in
    some_room total c.args.bound c.unsigned_abs.result above
    (c.unsigned_abs.ensures.value ∙ ap unsigned_abs rest)
