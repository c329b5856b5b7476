use Rattle.penalty_layer.proofs.Common.{arith, nat_tests, penalty_extends}
use Rattle.penalty_layer.proofs.penalty.PenaltyGuard.extend.Goals as goal

pub returns-clause-least : goal.returns-clause-least
returns-clause-least c = grind (arith, nat_tests, penalty_extends)
