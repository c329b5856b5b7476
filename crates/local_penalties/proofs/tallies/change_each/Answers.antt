use Rattle.local_penalties.proofs.Common.{◌+◌, ◌-◌, ◌<◌, ◌∙◌, ap, arith, elements, length, set, get_or, code_of, turned_literal}
use Rattle.local_penalties.proofs.Places.{changed-step, first-place, others-within, others-once, others-same, meets-first}
use Rattle.local_penalties.proofs.tallies.change_each.Goals as goal

pub overflow_sub-numbers : goal.overflow_sub-numbers
overflow_sub-numbers c =
    let h = c.loop-literal.invariant in
    let m = c.in-Some.literal in
    let first = h.room (turned_literal c.args.turned m) (meets-first c.args.turned m _ _ c.in-Some.ensures.steps) in
    rw c.place_of-place.ensures first.0

pub overflow_add-numbers : goal.overflow_add-numbers
overflow_add-numbers c =
    let h = c.loop-literal.invariant in
    let m = c.in-Some.literal in
    let first = h.room (turned_literal c.args.turned m) (meets-first c.args.turned m _ _ c.in-Some.ensures.steps) in
    rw c.place_of-place.ensures (omega (arith, first.0, first.1))

pub loop-literal-preserved : goal.loop-literal-preserved
loop-literal-preserved c =
    let h = c.loop-literal.invariant in
    let steps = c.in-Some.ensures.steps in
    let m = c.in-Some.literal in
    let ns = c.loop-literal.numbers in
    let turned = c.args.turned in
    let inside : code_of (turned_literal turned m) < length ns =
    rw h.places (first-place _ turned m _ _ steps h.within) in
    let written = ap (λ n. set ns n (get_or ns n 0 - c.args.minus + c.args.plus)) c.place_of-place.ensures in
    record {
      places = grind (arith, elements, h.places);
      within = others-within _ m _ _ steps h.within;
      apart = others-once m _ _ steps h.apart;
      room = λ k met.
          let keeps = others-same ns _ turned m _ _ _ steps h.apart inside written k met in
          rw keeps.0 (h.room k keeps.1);
      changed = λ k. changed-step ns _ turned m _ _ c.args.plus c.args.minus steps h.apart inside written k
          ∙ h.changed k;
    }
