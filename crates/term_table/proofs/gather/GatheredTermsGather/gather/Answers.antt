use Rattle.term_table.proofs.Common.{nat_tests, arith, to_z-of_z, on_ok_weaker}
use Rattle.term_table.proofs.RoomForTerms.{next_set, next_small, next_room}
use Rattle.term_table.proofs.gather.GatheredTermsGather.gather.Goals as goal

pub add-requires-clause-set : goal.add-requires-clause-set
add-requires-clause-set c =
    next_set c.args.self.now c.args.literals.now c.args.coefficient c.requires.0 c.requires.1

pub add-requires-clause-small : goal.add-requires-clause-small
add-requires-clause-small c = grind (arith, nat_tests, to_z-of_z, next_small)

pub returns-clause-takes : goal.returns-clause-takes
returns-clause-takes c more room = grind (arith, nat_tests, to_z-of_z, on_ok_weaker, next_room)
