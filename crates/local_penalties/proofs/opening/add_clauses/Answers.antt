use Rattle.local_penalties.proofs.Common.{arith, elements, length, ◌/◌, IsNormalClause}
use Rattle.local_penalties.proofs.Openings.{clauses-left, all-left}
use Rattle.local_penalties.proofs.opening.add_clauses.Goals as goal

pub loop-clause-preserved : goal.loop-clause-preserved
loop-clause-preserved c =
    let h = c.loop-clause.invariant in
    let k = c.in-Some.clause in
    let steps = c.in-Some.ensures.steps in
    record {
      places = grind (arith, elements, h.places);
      normal = all-left (IsNormalClause (length c.args.numbers.now / 2)) k _ _ steps h.normal;
      sums = λ l. clauses-left l c.args.whole k _ _ _ _ _ steps (c.add_clause.ensures l) (h.sums l);
    }
