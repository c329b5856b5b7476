use Rattle.conflict_clauses.proofs.Common.{rules, tests, refl, all_from_yields_List, YieldsList-from_first, is_single}
use Rattle.conflict_clauses.proofs.conflicts.all_single.Goals as goal

pub returns : goal.returns
returns c =
    all_from_yields_List is_single _ _ _ c.all.ensures.ran
    (YieldsList-from_first (λ l. l) (λ s. s) c.args.products refl) (λ x b q k. search (rules, tests))
