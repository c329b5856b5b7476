use Rattle.run_steps.proofs.Lemmas.{reads}
use Rattle.run_steps.proofs.orders.take_order.Goals as goal

pub returns-clause-refusal : goal.returns-clause-refusal
returns-clause-refusal g c = reads c.take_named.ensures.took
