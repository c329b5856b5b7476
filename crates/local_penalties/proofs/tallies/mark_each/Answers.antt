use Rattle.local_penalties.proofs.Common.{◌∙◌, ap, arith, elements, true, set}
use Rattle.local_penalties.proofs.Places.{marked-step, first-place, others-within}
use Rattle.local_penalties.proofs.tallies.mark_each.Goals as goal

pub loop-literal-preserved : goal.loop-literal-preserved
loop-literal-preserved c =
    let h = c.loop-literal.invariant in
    let steps = c.in-Some.ensures.steps in
    let m = c.in-Some.literal in
    let place = c.place_of-place.ensures in
    let marks = c.loop-literal.marks in
    let inside = first-place _ c.args.turned m _ _ steps h.within in
    record {
      places = grind (arith, elements, h.places);
      within = others-within _ m _ _ steps h.within;
      marked = λ k. marked-step marks _ c.args.turned m _ _ steps
          (rw h.places inside)
          (ap (λ n. set marks n true) place) k ∙ h.marked k;
    }
