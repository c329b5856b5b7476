use Rattle.form_steps.proofs.Rewritten.{rewritten_by}
use Rattle.form_steps.proofs.laws.rewriting_relaxes.Goals as goal

pub returns : goal.returns
returns c = rewritten_by
