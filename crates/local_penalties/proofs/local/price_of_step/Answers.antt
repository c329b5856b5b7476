use Rattle.local_penalties.proofs.Common.{◌≡◌, ◌∙◌, ap, map, true, rules, unsigned_abs, list_all, is_single, count_past, number_of}
use Rattle.local_penalties.proofs.LocalSteps.{step-price-whole}
use Rattle.local_penalties.proofs.local.price_of_step.Goals as goal

pub returns-clause-value : goal.returns-clause-value
returns-clause-value c =
    let single : list_all is_single c.args.products ≡ true = search rules in
    step-price-whole (number_of c.args.numbers.now) c.args.room _ c.args.products _ _ _ _ single
    (c.in_ok-put_sizes.ensures ∙ ap (map (λ z. unsigned_abs z)) c.coefficients.ensures) c.sort_down.ensures
    (c.count_past-count.ensures ∙ ap (count_past c.args.room) c.deref.ensures.value) c.in_ok-put_wanted.ensures c.greatest.ensures.value
