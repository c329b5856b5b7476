use Rattle.bits_model.proofs.Common.{nat_tests, length, ap, arith, to_z-of_z, get_or_default}
use Rattle.bits_model.proofs.NodeNumbers.{number_of, next_weighed, none_left}
use Rattle.bits_model.proofs.nodes.NodeEntriesIterator.next.Goals as goal
use Rattle.bits_model.proofs.nodes.NodeEntriesIterator.next.Goals.{in-All, in-Listed}

pub returns-then-at-self-clause-steps : goal.returns-then-at-self-clause-steps
returns-then-at-self-clause-steps c = grind (arith, nat_tests, none_left)

pub returns-clause-steps : goal.returns-clause-steps
returns-clause-steps c =
    grind (arith, nat_tests, number_of, in-All, in-Listed, get_or_default, to_z-of_z, next_weighed)

pub returns-clause-goes : goal.returns-clause-goes
returns-clause-goes c = record {
  on = λ _. (tt, tt, omega (arith, ap length (returns-clause-steps c)));
  keeps = tt;
  rests = λ _. tt;
}
