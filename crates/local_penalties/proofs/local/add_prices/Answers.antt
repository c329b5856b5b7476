use Rattle.local_penalties.proofs.Common.{◌-◌, ◌∙◌, ap, get_or, number_of, turned_literal}
use Rattle.local_penalties.proofs.Places.{others-within}
use Rattle.local_penalties.proofs.LocalSteps.{prices-step}
use Rattle.local_penalties.proofs.local.add_prices.Goals as goal

pub loop-literal-preserved : goal.loop-literal-preserved
loop-literal-preserved c =
    let h = c.loop-literal.invariant in
    let m = c.in-Some.literal in
    let steps = c.in-Some.ensures.steps in
    let value = c.saturating_sub.ensures ∙ ap (λ n. get_or c.args.numbers.now n 0 - c.args.own) c.place_of.ensures in
    record {
      within = others-within _ m _ _ steps h.within;
      items = prices-step (λ l. number_of c.args.numbers.now l - c.args.own) (turned_literal c.args.turned) m _ _ _ _ _ _
          steps value c.in_ok-push.ensures.items h.items;
    }
