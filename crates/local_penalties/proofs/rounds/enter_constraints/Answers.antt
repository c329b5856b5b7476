use Rattle.local_penalties.proofs.Common.{◌<◌, ◌^◌, ap, arith, elements, length, drop, Literal, Constraint, HavePlaces, constraint_charges, charge, hurts_constraint, most_missing, own, number_of, drop_all, constraint_total}
use Rattle.local_penalties.proofs.RoundSteps.{all-at, constraint_charges-at, entered, may-enter}
use Rattle.local_penalties.proofs.rounds.enter_constraints.Goals as goal

pub enter_constraint-requires-clause-lengths : goal.enter_constraint-requires-clause-lengths
enter_constraint-requires-clause-lengths c = omega (arith, c.loop-i.invariant.places, c.loop-i.invariant.marks_places)

pub enter_constraint-requires-clause-total : goal.enter_constraint-requires-clause-total
enter_constraint-requires-clause-total c =
    all-at (λ (k : Constraint). constraint_total k < 2 ^ 100) _ _ _ c.requires.totals c.at-constraint.ensures

pub enter_constraint-requires-clause-missing : goal.enter_constraint-requires-clause-missing
enter_constraint-requires-clause-missing c =
    all-at (λ (k : Constraint). most_missing k < 2 ^ 32) _ _ _ c.requires.missing c.at-constraint.ensures

pub enter_constraint-requires-clause-within : goal.enter_constraint-requires-clause-within
enter_constraint-requires-clause-within c =
    rw c.loop-i.invariant.places
    (all-at (λ (k : Constraint). HavePlaces (length c.args.numbers.now) k.products) _ _ _ c.requires.within c.at-constraint.ensures)

pub enter_constraint-requires-clause-unmarked : goal.enter_constraint-requires-clause-unmarked
enter_constraint-requires-clause-unmarked c = c.loop-i.invariant.unmarked

pub enter_constraint-requires-clause-room : goal.enter_constraint-requires-clause-room
enter_constraint-requires-clause-room c = λ l.
    let h = c.loop-i.invariant in
    let i = c.loop-i.i in
    let w = c.args.whole in
    let k = c.at-constraint.result in
    let was = constraint_charges-at l w i c.args.was.now k c.args.constraints.now c.at-constraint.ensures in
    let is = constraint_charges-at l w i c.args.is.now k c.args.constraints.now c.at-constraint.ensures in
    rw (c.own_at-before.ensures, c.own_at-after.ensures)
    (may-enter (hurts_constraint k l) (charge w (own w (drop i c.args.was.now)) (most_missing k)) (charge w (own w (drop i c.args.is.now)) (most_missing k)) (number_of c.loop-i.numbers l) _ _ _ _ _ was is (h.counted l) (h.room l))

pub loop-i-preserved : goal.loop-i-preserved
loop-i-preserved c =
    let h = c.loop-i.invariant in
    let i = c.loop-i.i in
    let w = c.args.whole in
    let k = c.at-constraint.result in
    let was = λ (l : Literal). constraint_charges-at l w i c.args.was.now k c.args.constraints.now c.at-constraint.ensures in
    let is = λ (l : Literal). constraint_charges-at l w i c.args.is.now k c.args.constraints.now c.at-constraint.ensures in
    let changed = rw (c.own_at-before.ensures, c.own_at-after.ensures) at c.enter_constraint.ensures.numbers in
    let all = λ (l : Literal). entered (hurts_constraint k l) _ _ _ _ _ _ _ _ _ _ (changed l) (was l) (is l) (h.counted l) (h.sums l) in
    record {
      places = grind (arith, elements, h.places);
      marks_places = grind (arith, elements, h.marks_places);
      unmarked = c.enter_constraint.ensures.unmarked;
      counted = λ l. (all l).counted;
      room = λ l. omega (arith, (all l).room, h.room l);
      sums = λ l. (all l).sums;
    }

pub returns-clause-numbers : goal.returns-clause-numbers
returns-clause-numbers c = λ l.
    let h = c.loop-i.invariant in
    let none = drop_all c.loop-i.i c.args.constraints.now (omega (arith, c.loop-i-test.false, c.len-i-end.ensures)) in
    let was = ap (λ ks. constraint_charges c.args.whole (drop c.loop-i.i c.args.was.now) ks l) none in
    let is = ap (λ ks. constraint_charges c.args.whole (drop c.loop-i.i c.args.is.now) ks l) none in
    omega (arith, was, is, h.sums l)
