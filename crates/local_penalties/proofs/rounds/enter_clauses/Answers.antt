use Rattle.local_penalties.proofs.Common.{◌/◌, ap, arith, elements, length, drop, Literal, IsNormalClause, clause_charges, charge, hurts_clause, own, number_of, drop_all}
use Rattle.local_penalties.proofs.RoundSteps.{all-at, clause_charges-at, entered, may-enter}
use Rattle.local_penalties.proofs.rounds.enter_clauses.Goals as goal

pub enter_clause-requires-clause-normal : goal.enter_clause-requires-clause-normal
enter_clause-requires-clause-normal c =
    rw c.loop-i.invariant.places
    (all-at (IsNormalClause (length c.args.numbers.now / 2)) _ _ _ c.requires.normal c.at-clause.ensures)

pub enter_clause-requires-clause-room : goal.enter_clause-requires-clause-room
enter_clause-requires-clause-room c = λ l.
    let h = c.loop-i.invariant in
    let i = c.loop-i.i in
    let w = c.args.whole in
    let k = c.at-clause.result in
    let was = clause_charges-at l w i c.args.was.now k c.args.clauses.now c.at-clause.ensures in
    let is = clause_charges-at l w i c.args.is.now k c.args.clauses.now c.at-clause.ensures in
    rw (c.own_at-before.ensures, c.own_at-after.ensures)
    (may-enter (hurts_clause k l) (charge w (own w (drop i c.args.was.now)) 1) (charge w (own w (drop i c.args.is.now)) 1) (number_of c.loop-i.numbers l) _ _ _ _ _ was is (h.counted l) (h.room l))

pub loop-i-preserved : goal.loop-i-preserved
loop-i-preserved c =
    let h = c.loop-i.invariant in
    let i = c.loop-i.i in
    let w = c.args.whole in
    let k = c.at-clause.result in
    let was = λ (l : Literal). clause_charges-at l w i c.args.was.now k c.args.clauses.now c.at-clause.ensures in
    let is = λ (l : Literal). clause_charges-at l w i c.args.is.now k c.args.clauses.now c.at-clause.ensures in
    let changed = rw (c.own_at-before.ensures, c.own_at-after.ensures) at c.enter_clause.ensures in
    let all = λ (l : Literal). entered (hurts_clause k l) _ _ _ _ _ _ _ _ _ _ (changed l) (was l) (is l) (h.counted l) (h.sums l) in
    record {
      places = grind (arith, elements, h.places);
      counted = λ l. (all l).counted;
      room = λ l. omega (arith, (all l).room, h.room l);
      sums = λ l. (all l).sums;
    }

pub returns : goal.returns
returns c = λ l.
    let h = c.loop-i.invariant in
    let none = drop_all c.loop-i.i c.args.clauses.now (omega (arith, c.loop-i-test.false, c.len-i-end.ensures)) in
    let was = ap (λ ks. clause_charges c.args.whole (drop c.loop-i.i c.args.was.now) ks l) none in
    let is = ap (λ ks. clause_charges c.args.whole (drop c.loop-i.i c.args.is.now) ks l) none in
    omega (arith, was, is, h.sums l)
