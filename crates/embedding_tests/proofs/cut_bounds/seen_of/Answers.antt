use Rattle.std.proofs.Common.{arith}
use Rattle.embedding_tests.proofs.cut_bounds.seen_of.Goals as goal

pub lower-requires-clause-size : goal.lower-requires-clause-size
lower-requires-clause-size c = omega (arith, c.requires.size, c.ising.ensures.kept.few)
