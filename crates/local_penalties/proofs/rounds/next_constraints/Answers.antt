use Rattle.local_penalties.proofs.Common.{◌∙◌, ap, next_constraint, arith, length, Constraint, HavePlaces, number_of, ◌<◌, ◌^◌, constraint_total}
use Rattle.local_penalties.proofs.RoundSteps.{all-at, constraints-step, constraints-end}
use Rattle.local_penalties.proofs.rounds.next_constraints.Goals as goal

pub loop-i-preserved : goal.loop-i-preserved
loop-i-preserved c =
    constraints-step (number_of c.args.numbers.now) c.args.whole c.loop-i.i c.args.found.now c.at-constraint.result _ _ _ _ _
    c.at-constraint.ensures
    (c.in_ok-penalty.ensures ∙ ap (λ m. next_constraint (number_of c.args.numbers.now) c.args.whole m c.at-constraint.result) c.own_at-own.ensures)
    c.in_ok-push.ensures.items c.loop-i.invariant

pub returns : goal.returns
returns c =
    constraints-end (number_of c.args.numbers.now) c.args.whole c.loop-i.i c.args.found.now c.args.constraints.now _ _
    (omega (arith, c.loop-i-test.false, c.len-i-end.ensures)) c.loop-i.invariant

pub next_constraint-requires-clause-total : goal.next_constraint-requires-clause-total
next_constraint-requires-clause-total c =
    all-at (λ (k : Constraint). constraint_total k < 2 ^ 100) _ _ _ c.requires.totals c.at-constraint.ensures

pub next_constraint-requires-clause-within : goal.next_constraint-requires-clause-within
next_constraint-requires-clause-within c =
    all-at (λ (k : Constraint). HavePlaces (length c.args.numbers.now) k.products) _ _ _ c.requires.within c.at-constraint.ensures
