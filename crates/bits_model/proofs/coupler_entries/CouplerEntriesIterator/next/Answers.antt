use Rattle.bits_model.proofs.Common.{nat_tests, length, ap, arith, to_z-of_z}
use Rattle.bits_model.proofs.Packed.{next_of_left, past_first, left_below, later_rows}
use Rattle.bits_model.proofs.coupler_entries.CouplerEntriesIterator.next.Goals as goal

pub offset_bounds-self-inside-at : goal.offset_bounds-self-inside-at
offset_bounds-self-inside-at c =
    omega (arith, c.self.told, left_below _ c.self.inside.at _ c.in-len1-up.len_at_least c.self.invariant.0)

pub bounds-self-inside-at : goal.bounds-self-inside-at
bounds-self-inside-at c = left_below _ c.self.inside.at _ c.in-len1-up.len_at_least c.self.invariant.0

pub get-requires : goal.get-requires
get-requires c =
    omega (arith, c.self.invariant.1, left_below _ c.self.inside.at _ c.in-len1-up.len_at_least c.self.invariant.0)

pub overflow_add-self : goal.overflow_add-self
overflow_add-self c =
    omega (arith, c.self.told, left_below _ c.self.inside.at _ c.in-len1-up.len_at_least c.self.invariant.0)

pub overflow_add-at : goal.overflow_add-at
overflow_add-at c =
    omega (arith, c.self.told, left_below _ c.self.inside.at _ c.in-len1-up.len_at_least c.self.invariant.0)

pub returns-then-at-end_before-clause-steps : goal.returns-then-at-end_before-clause-steps
returns-then-at-end_before-clause-steps c =
    grind (arith, nat_tests, to_z-of_z, later_rows, past_first, next_of_left)

pub returns-else-at-end_before-clause-steps : goal.returns-else-at-end_before-clause-steps
returns-else-at-end_before-clause-steps c = grind (arith, nat_tests, to_z-of_z, next_of_left)

pub returns-then-at-end_before-clause-goes : goal.returns-then-at-end_before-clause-goes
returns-then-at-end_before-clause-goes c = record {
  on = λ _. (tt, tt, omega (arith, ap length (returns-then-at-end_before-clause-steps c)));
  keeps = tt;
  rests = λ _. tt;
}

pub returns-else-at-end_before-clause-goes : goal.returns-else-at-end_before-clause-goes
returns-else-at-end_before-clause-goes c = record {
  on = λ _. (tt, tt, omega (arith, ap length (returns-else-at-end_before-clause-steps c)));
  keeps = tt;
  rests = λ _. tt;
}
