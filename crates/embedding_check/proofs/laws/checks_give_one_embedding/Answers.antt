use Rattle.embedding_check.proofs.Unique.{checked_unique}
use Rattle.embedding_check.proofs.laws.checks_give_one_embedding.Goals as goal

pub returns : goal.returns
returns c = checked_unique
