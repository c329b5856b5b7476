use Rattle.local_penalties.proofs.Common.{◌≡◌, ◌+◌, ◌-◌, ◌<◌, ◌∙◌, sym, ap, arith, elements, length, true, false, set, get_or, code_of, turned_literal, is_marked}
use Rattle.local_penalties.proofs.Places.{first-place, others-within, taken-marks, kept-marks, taken-numbers, kept-numbers, taken-room}
use Rattle.local_penalties.proofs.tallies.change_marked.Goals as goal

pub overflow_sub-numbers : goal.overflow_sub-numbers
overflow_sub-numbers c =
    let h = c.loop-literal.invariant in
    let m = turned_literal c.args.turned c.in-Some.literal in
    let marked : is_marked c.loop-literal.marks m ≡ true =
    ap (λ n. get_or c.loop-literal.marks n false) (sym c.place_of-place.ensures) ∙ c.if-marks-place.true in
    rw c.place_of-place.ensures ((h.room m marked).0)

pub overflow_add-numbers : goal.overflow_add-numbers
overflow_add-numbers c =
    let h = c.loop-literal.invariant in
    let m = turned_literal c.args.turned c.in-Some.literal in
    let marked : is_marked c.loop-literal.marks m ≡ true =
    ap (λ n. get_or c.loop-literal.marks n false) (sym c.place_of-place.ensures) ∙ c.if-marks-place.true in
    let room = h.room m marked in
    rw c.place_of-place.ensures (omega (arith, room.0, room.1))

pub loop-literal-preserved-then-marks-place : goal.loop-literal-preserved-then-marks-place
loop-literal-preserved-then-marks-place c =
    let h = c.loop-literal.invariant in
    let steps = c.in-Some.ensures.steps in
    let l = c.in-Some.literal in
    let turned = c.args.turned in
    let ns = c.loop-literal.numbers in
    let marks = c.loop-literal.marks in
    let place = c.place_of-place.ensures in
    let inside = first-place _ turned l _ _ steps h.within in
    let in_numbers : code_of (turned_literal turned l) < length ns = rw h.places inside in
    let in_marks : code_of (turned_literal turned l) < length marks = rw h.marks_places inside in
    let marked : is_marked marks (turned_literal turned l) ≡ true =
    ap (λ n. get_or marks n false) (sym place) ∙ c.if-marks-place.true in
    let numbers = ap (λ n. set ns n (get_or ns n 0 - c.args.minus + c.args.plus)) place in
    let marks_written = ap (λ n. set marks n false) place in
    record {
      places = grind (arith, elements, h.places);
      marks_places = grind (arith, elements, h.marks_places);
      within = others-within _ l _ _ steps h.within;
      room = λ k is.
          let keeps = taken-room ns _ marks _ turned l _ in_numbers in_marks numbers marks_written k is in
          rw keeps.0 (h.room k keeps.1);
      changed = λ k. taken-numbers ns _ marks _ turned l _ _ c.args.plus c.args.minus steps in_numbers in_marks marked numbers marks_written k
          ∙ h.changed k;
      marked = λ k. taken-marks marks _ turned l _ _ steps in_marks marks_written k ∙ h.marked k;
    }

pub loop-literal-preserved : goal.loop-literal-preserved
loop-literal-preserved c =
    let h = c.loop-literal.invariant in
    let steps = c.in-Some.ensures.steps in
    let l = c.in-Some.literal in
    let turned = c.args.turned in
    let marks = c.loop-literal.marks in
    let unmarked : is_marked marks (turned_literal turned l) ≡ false =
    ap (λ n. get_or marks n false) (sym c.place_of-place.ensures) ∙ c.if-marks-place.false in
    record {
      places = h.places;
      marks_places = h.marks_places;
      within = others-within _ l _ _ steps h.within;
      room = h.room;
      changed = λ k. kept-numbers c.loop-literal.numbers marks turned l _ _ c.args.plus c.args.minus steps unmarked k ∙ h.changed k;
      marked = λ k. kept-marks marks turned l _ _ steps unmarked k ∙ h.marked k;
    }
