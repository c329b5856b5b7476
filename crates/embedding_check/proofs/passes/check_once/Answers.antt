use Rattle.std.proofs.Common.{refl}
use Rattle.embedding_check.proofs.passes.check_once.Goals as goal

pub returns-clause-once : goal.returns-clause-once
returns-clause-once c = c.in-None.ensures.once refl
