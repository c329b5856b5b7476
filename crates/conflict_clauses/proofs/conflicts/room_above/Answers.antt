use Rattle.conflict_clauses.proofs.Common.{◌≡◌, ◌<◌, ◌^◌, ◌-ℤ◌, ◌∙◌, true, false, ap, arith, pos, unsigned_abs, int_lt, to_z, of_z, w128, ints, positive_total, positive_total-le}
use Rattle.conflict_clauses.proofs.Missing.{is_less, is_not_less, no_room, some_room}
use Rattle.conflict_clauses.proofs.conflicts.room_above.Goals as goal

pub positive_coefficients-most-requires : goal.positive_coefficients-most-requires
positive_coefficients-most-requires c =
    omega (arith, positive_total-le c.args.products, c.requires.small)

pub overflow_cast-most : goal.overflow_cast-most
overflow_cast-most c = omega (arith, ints, positive_total-le)

pub returns-then-most-bound-clause-room : goal.returns-then-most-bound-clause-room
returns-then-most-bound-clause-room c =
    let total = positive_total c.args.products in
    let below : int_lt (pos total) c.args.bound ≡ true =
    is_less (pos total) c.args.bound (omega (arith, ints, positive_total-le)) in
    no_room total c.args.bound below

pub overflow_sub-most : goal.overflow_sub-most
overflow_sub-most c = omega (arith, ints, positive_total-le)

pub returns-clause-room : goal.returns-clause-room
returns-clause-room c =
    let total = positive_total c.args.products in
    let above : int_lt (pos total) c.args.bound ≡ false =
    is_not_less (pos total) c.args.bound (omega (arith, ints, positive_total-le)) in
    let rest : to_z w128 (of_z w128 (to_z w128 c.positive_coefficients-most.result
    -ℤ to_z w128 (of_z w128 c.args.bound))) ≡ pos total -ℤ c.args.bound =
    omega (arith, ints, positive_total-le) in
    some_room total c.args.bound c.unsigned_abs.result above
    (c.unsigned_abs.ensures.value ∙ ap unsigned_abs rest)

pub returns-clause-small : goal.returns-clause-small
returns-clause-small c =
    let total = positive_total c.args.products in
    let rest : to_z w128 (of_z w128 (to_z w128 c.positive_coefficients-most.result
    -ℤ to_z w128 (of_z w128 c.args.bound))) ≡ pos total -ℤ c.args.bound =
    omega (arith, ints, positive_total-le) in
    let value : c.unsigned_abs.result ≡ unsigned_abs (pos total -ℤ c.args.bound) =
    c.unsigned_abs.ensures.value ∙ ap unsigned_abs rest in
    let small : unsigned_abs (pos total -ℤ c.args.bound) < 2 ^ 101 =
    omega (arith, ints, positive_total-le c.args.products, c.requires.small, c.requires.bound) in
    omega (arith, value, small)
