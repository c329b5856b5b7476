use Rattle.cut_chains.specs.laws.Unbroken.{least_is_whole}
use Rattle.cut_chains.proofs.laws.law_of_least_states.Goals as goal

pub returns : goal.returns
returns c = record { whole = λ e y kept. least_is_whole e kept y }
