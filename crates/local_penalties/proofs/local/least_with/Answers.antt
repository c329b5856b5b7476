use Rattle.local_penalties.proofs.Common.{◌∙◌, ap, arith, min, get_or, number_of, turned_literal}
use Rattle.local_penalties.proofs.Places.{others-within}
use Rattle.local_penalties.proofs.LocalSteps.{least-step}
use Rattle.local_penalties.proofs.local.least_with.Goals as goal

pub loop-literal-preserved : goal.loop-literal-preserved
loop-literal-preserved c =
    let h = c.loop-literal.invariant in
    let m = c.in-Some.literal in
    let steps = c.in-Some.ensures.steps in
    let found = c.loop-literal.found in
    let value = c.min-found.ensures ∙ ap (λ n. min found (get_or c.args.numbers.now n 0)) c.place_of.ensures in
    record {
      within = others-within _ m _ _ steps h.within;
      least = least-step (number_of c.args.numbers.now) (turned_literal c.args.turned) m _ _ found _ _ steps value h.least;
      small = omega (arith, value, h.small);
    }
