use Rattle.quadratization.proofs.Common.{nat_tests, ints, ◌∙◌, arith, rules, w128, to_z-of_z, length-widened, size-widened}
use Rattle.quadratization.proofs.LongPlaces.{changed}
use Rattle.quadratization.proofs.shares.with_long.Goals as goal

pub add_shares-constant-requires-clause-nodes : goal.add_shares-constant-requires-clause-nodes
add_shares-constant-requires-clause-nodes c = grind (arith, nat_tests, length-widened)

pub add_shares-constant-requires-clause-small : goal.add_shares-constant-requires-clause-small
add_shares-constant-requires-clause-small c = grind (arith, nat_tests, size-widened)

pub returns-clause-weights : goal.returns-clause-weights
returns-clause-weights c = grind (arith, nat_tests, ints, changed)

pub returns-clause-constant : goal.returns-clause-constant
returns-clause-constant c =
    to_z-of_z w128 c.add_shares-constant.result (search rules) ∙ c.add_shares-constant.ensures.constant
