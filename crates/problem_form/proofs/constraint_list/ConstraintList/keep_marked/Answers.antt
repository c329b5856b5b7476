use Rattle.problem_form.proofs.Lemmas.{arith, nat_tests, subst, sym, length, List, All, Row, LiesWithin, All-marked, marked-map}
use Rattle.problem_form.proofs.constraint_list.ConstraintList.keep_marked.Goals as goal

pub invariant_of-self : goal.invariant_of-self
invariant_of-self c =
    let P : Row → Type 0 = LiesWithin (length c.self.inside.products) in
    let AllOf : List Row → Type 0 = All P in
    subst AllOf (sym c.keep_rows.ensures) (All-marked P c.args.kept.now c.self.inside.rows.items c.self.invariant)

pub returns : goal.returns
returns c = grind (arith, nat_tests, marked-map)
