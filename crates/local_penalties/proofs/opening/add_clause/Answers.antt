use Rattle.local_penalties.proofs.Common.{◌∙◌, ap, Clause, each_once}
use Rattle.local_penalties.proofs.Sets.{clause-once}
use Rattle.local_penalties.proofs.opening.add_clause.Goals as goal

pub change_each-requires-clause-apart : goal.change_each-requires-clause-apart
change_each-requires-clause-apart c =
    ap (λ (k : Clause). each_once k.literals) c.clause.view_is ∙ clause-once _ _ c.requires.normal
