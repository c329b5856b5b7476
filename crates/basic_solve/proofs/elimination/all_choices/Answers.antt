use Rattle.basic_solve.proofs.Common.{◌∙◌, [], ap, replicate, subst, All, IsPlaced}
use Rattle.basic_solve.proofs.ColumnLists.{columns-entries}
use Rattle.basic_solve.proofs.elimination.all_choices.Goals as goal

pub choose_all-requires-clause-held : goal.choose_all-requires-clause-held
choose_all-requires-clause-held g c =
    rw c.left-held.ensures
    (columns-entries _ _ (subst (λ w. All (IsPlaced w.nodes) w.entries) c.model.view_is c.model.invariant.placed))

pub choose_all-requires-clause-waiting : goal.choose_all-requires-clause-waiting
choose_all-requires-clause-waiting g c =
    c.in_ok-waiting.ensures ∙ ap (λ w. replicate w.nodes []) c.model.view_is
