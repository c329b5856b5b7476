use Rattle.bits_model.proofs.Packed.{last_is_at}
use Rattle.bits_model.proofs.couplers.last_is.Goals as goal

pub returns-in-Some : goal.returns-in-Some
returns-in-Some c = last_is_at c.args.first c.args.rows.now c.in-Some.row.now c.in-Some.ensures.value
