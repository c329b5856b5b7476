use Rattle.basic_solve.proofs.Halves.{halves-at}
use Rattle.basic_solve.proofs.tables.are_halves.Goals as goal

pub returns-then-first-eq0-clause-halves : goal.returns-then-first-eq0-clause-halves
returns-then-first-eq0-clause-halves c h x lt =
    halves-at c.args.digits.now c.in-len1-up.len_at_least c.if-first-eq0.true (c.are_powers.ensures h) x lt
