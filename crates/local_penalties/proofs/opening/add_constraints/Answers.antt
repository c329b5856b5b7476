use Rattle.local_penalties.proofs.Common.{arith, elements, length, ◌/◌, All, Constraint, IsNormalProduct}
use Rattle.local_penalties.proofs.Openings.{constraints-left, all-left}
use Rattle.local_penalties.proofs.opening.add_constraints.Goals as goal

pub loop-constraint-preserved : goal.loop-constraint-preserved
loop-constraint-preserved c =
    let h = c.loop-constraint.invariant in
    let k = c.in-Some.constraint in
    let steps = c.in-Some.ensures.steps in
    record {
      places = grind (arith, elements, h.places);
      marks_places = grind (arith, elements, h.marks_places);
      normal = all-left (λ (j : Constraint). All (IsNormalProduct (length c.args.numbers.now / 2)) j.products) k _ _ steps h.normal;
      unmarked = c.change_hurting.ensures.unmarked;
      sums = λ l. constraints-left l c.args.whole k _ _ _ _ _ steps (c.change_hurting.ensures.numbers l) (h.sums l);
    }
