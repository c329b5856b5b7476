use Rattle.quadratization.proofs.Common.{nat_tests, arith}
use Rattle.quadratization.proofs.ProblemTerms.{room-contributions, few-pairs, room-of}
use Rattle.quadratization.proofs.of_problem.problem_terms.Goals as goal

pub add_contributions-requires-clause-room : goal.add_contributions-requires-clause-room
add_contributions-requires-clause-room c = grind (arith, nat_tests, room-contributions)

pub returns-clause-room : goal.returns-clause-room
returns-clause-room c = room-of c.args.problem.now c.requires

pub returns-clause-few : goal.returns-clause-few
returns-clause-few c =
    few-pairs c.args.problem.now c.add_contributions.new.terms c.requires c.in_ok-add_contributions.ensures
