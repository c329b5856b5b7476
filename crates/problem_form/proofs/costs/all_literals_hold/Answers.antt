use Rattle.problem_form.proofs.Common.{rules, tests, refl, all_from_yields_List, YieldsList-from_first, holds}
use Rattle.problem_form.proofs.costs.all_literals_hold.Goals as goal

pub returns : goal.returns
returns c =
    all_from_yields_List (holds c.args.x.now) _ _ _ c.all.ensures.ran
    (YieldsList-from_first (λ l. l) (λ s. s) c.args.literals refl) (λ x b q k. search (rules, tests))
