use Rattle.basic_solve.proofs.Common.{arith, length}
use Rattle.basic_solve.proofs.Halves.{digit-room}
use Rattle.basic_solve.proofs.tables.+are_powers.Goals as goal

pub overflow_add-digit : goal.overflow_add-digit
overflow_add-digit t c =
    let room = digit-room c.args.digit (length _) 4294967296 c.in-len1-up.len_at_least in
    omega (arith, room, c.requires)
