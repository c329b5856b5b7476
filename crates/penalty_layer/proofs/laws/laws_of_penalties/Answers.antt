use Rattle.penalty_layer.proofs.Common.{global_is_enough, prices_are_least}
use Rattle.penalty_layer.proofs.laws.laws_of_penalties.Goals as goal

pub returns : goal.returns
returns c = record { prices = prices_are_least; global = global_is_enough }
