use Rattle.std.proofs.Common.{arith}
use Rattle.embedding_tests.proofs.all_states.seen_of.Goals as goal

pub lower-requires-clause-total : goal.lower-requires-clause-total
lower-requires-clause-total c = omega (arith, c.requires.total)

pub lower-requires-clause-offset : goal.lower-requires-clause-offset
lower-requires-clause-offset c = omega (arith, c.requires.total)

pub lower-requires-clause-size : goal.lower-requires-clause-size
lower-requires-clause-size c =
    omega (arith, c.requires.size, c.ising-form.ensures.kept.few)
