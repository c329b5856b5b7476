use Rattle.program_run.proofs.Lemmas.{first_wide_node}
use Rattle.program_run.proofs.laws.the_first_wide_node_is_named.Goals as goal

pub returns : goal.returns
returns c = first_wide_node
