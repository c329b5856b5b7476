use Rattle.problem_form.proofs.Common.{◌∙◌, sym, drop-at}
use Rattle.problem_form.proofs.constraint_list.ConstraintsIterator.next.Goals as goal

pub returns-clause-steps : goal.returns-clause-steps
returns-clause-steps c =
    sym c.self.view_is ∙ drop-at c.self.inside.list.now c.self.inside.next _ c.at-constraint.ensures
