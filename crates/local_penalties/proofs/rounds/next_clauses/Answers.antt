use Rattle.local_penalties.proofs.Common.{◌∙◌, ap, next_clause, arith, length, Clause, AreWithin, number_of}
use Rattle.local_penalties.proofs.RoundSteps.{all-at, clauses-step, clauses-end}
use Rattle.local_penalties.proofs.rounds.next_clauses.Goals as goal

pub loop-i-preserved : goal.loop-i-preserved
loop-i-preserved c =
    clauses-step (number_of c.args.numbers.now) c.args.whole c.loop-i.i c.args.found.now c.at-clause.result _ _ _ _ _
    c.at-clause.ensures
    (c.next_clause-penalty.ensures ∙ ap (λ m. next_clause (number_of c.args.numbers.now) c.args.whole m c.at-clause.result) c.own_at-own.ensures)
    c.in_ok-push.ensures.items c.loop-i.invariant

pub returns : goal.returns
returns c =
    clauses-end (number_of c.args.numbers.now) c.args.whole c.loop-i.i c.args.found.now c.args.clauses.now _ _
    (omega (arith, c.loop-i-test.false, c.len-i-end.ensures)) c.loop-i.invariant

pub next_clause-penalty-requires : goal.next_clause-penalty-requires
next_clause-penalty-requires c =
    all-at (λ (k : Clause). AreWithin (length c.args.numbers.now) k.literals) _ _ _ c.requires c.at-clause.ensures
