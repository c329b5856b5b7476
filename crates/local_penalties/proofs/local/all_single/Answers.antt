use Rattle.local_penalties.proofs.Common.{rules, tests, refl, is_single}
use Rattle.problem_form.proofs.Common.{all_from_yields_List, YieldsList-from_first}
use Rattle.local_penalties.proofs.local.all_single.Goals as goal

pub returns : goal.returns
returns c =
    all_from_yields_List is_single _ _ _ c.all.ensures.ran
    (YieldsList-from_first (λ l. l) (λ s. s) c.args.products refl) (λ x b q k. search (rules, tests))
