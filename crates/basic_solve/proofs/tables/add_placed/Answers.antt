use Rattle.basic_solve.proofs.Common.{◌-◌, arith, length, one_le_pow}
use Rattle.basic_solve.proofs.Halves.{even-power}
use Rattle.basic_solve.proofs.tables.add_placed.Goals as goal

pub add_twice-requires-clause-even : goal.add_twice-requires-clause-even
add_twice-requires-clause-even g c =
    let even = even-power (length c.args.digits.now) (c.are_halves.ensures.some c.if-are_halves.true) in
    omega (arith, even, c.requires.count)

pub add_twice-requires-clause-within : goal.add_twice-requires-clause-within
add_twice-requires-clause-within g c =
    let digits = c.args.digits.now in
    let last = length c.args.values.now - 1 in
    let even = even-power (length digits) (c.are_halves.ensures.some c.if-are_halves.true) in
    let half = c.are_halves.ensures.halves c.if-are_halves.true last
    (omega (arith, c.requires.count, one_le_pow (length digits))) in
    omega (arith, even, half, c.requires.within last, c.requires.count, one_le_pow (length digits))
