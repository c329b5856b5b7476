use Rattle.basic_solve.proofs.Common.{is_in, true, get_or, ◌≡◌, ◌∙◌, ◌-◌, ap, sym, subst, length, arith, All, IsPlaced, with_lesser}
use Rattle.basic_solve.proofs.ColumnLists.{handed_with, length-handed, length-with_lesser}
use Rattle.basic_solve.proofs.Passing.{member_at}
use Rattle.basic_solve.proofs.Neighbourhoods.{NextSet, so_far_at_first, next_set, neighbourhoods_of, within_width}
use Rattle.basic_solve.proofs.neighbours.push_neighbours.Goals.{After-ascend}
use Rattle.basic_solve.proofs.neighbours.push_neighbours.Goals as goal

pub loop-step-init : goal.loop-step-init
loop-step-init c = (c.requires.count, rw c.requires.none (so_far_at_first _ _ _ c.requires.lower))

pub take_lesser-requires-clause-some : goal.take_lesser-requires-clause-some
take_lesser-requires-clause-some c =
    let s = c.loop-step in
    omega (arith, s.invariant.1.left, length-with_lesser s.columns s.passed s.invariant.0, c.loop-step-test.true, ap (λ w. w.nodes) c.model.view_is)

-- the node that this step eliminates
set : (c : After-ascend) → NextSet 16 c.args.model.now c.loop-step.step
    (with_lesser c.take_lesser.new.columns c.take_lesser.new.passed) c.loop-step.sets
    c.ascend.new.list.items
set c =
    next_set _ _ _ _ _ _ _ _ (subst (λ w. All (IsPlaced w.nodes) w.entries) c.model.view_is c.model.invariant.placed)
    c.loop-step.invariant.1 c.in_ok-take_lesser.ensures.taken c.ascend.ensures.increasing
    c.ascend.ensures.members

pub overflow_cast-result-then-count-gt-MOST : goal.overflow_cast-result-then-count-gt-MOST
overflow_cast-result-then-count-gt-MOST c =
    let s = set (goal.at.overflow_cast-result-then-count-gt-MOST c).After-ascend in
    omega (arith, s.few, s.nodes, c.len-count.ensures, c.ascend.new.list.ok.0, ap (λ w. w.nodes) c.model.view_is)

pub returns-then-count-gt-MOST-clause-wide : goal.returns-then-count-gt-MOST-clause-wide
returns-then-count-gt-MOST-clause-wide c v w e =
    let s = set (goal.at.returns-then-count-gt-MOST-clause-wide c).After-ascend in
    let count : c.len-count.result ≡ length c.ascend.new.list.items
    = omega (arith, c.len-count.ensures, c.ascend.new.list.ok.0) in
    let number : c.model.inside.nodes - 1 - c.loop-step.step ≡ v = cc in
    let wide : c.len-count.result ≡ w = cc in
    let node : length (with_lesser c.take_lesser.new.columns c.take_lesser.new.passed) ≡ v
    = omega (arith, s.nodes, number, ap (λ w. w.nodes) c.model.view_is) in
    rw (node, sym count ∙ wide) at (s.wide (omega (arith, count, c.if-count-gt-MOST.true)))

pub pass_on-requires : goal.pass_on-requires
pass_on-requires c k d h =
    let s = set (goal.at.pass_on-requires c).After-ascend in
    let taken = c.take_lesser.new in
    let count = c.in_ok-take_lesser.ensures.count in
    let u = get_or c.deref.result.now k d in
    let inside = subst (λ l. is_in l u ≡ true) c.deref.ensures.value (member_at c.deref.result.now k d h) in
    omega (arith, s.within u inside, count, length-with_lesser taken.columns taken.passed count)

pub loop-step-preserved : goal.loop-step-preserved
loop-step-preserved c =
    let s = set (goal.at.loop-step-preserved c).After-ascend in
    let taken = c.take_lesser.new in
    let ns = c.ascend.new.list in
    let handed = rw c.deref.ensures.value at c.in_ok-pass_on.ensures in (
      length-handed ns.items taken.passed c.pass_on.new.passed handed ∙ c.in_ok-take_lesser.ensures.count,
      rw (c.in_ok-push.ensures.pushed, c.deref-in-loop-step.ensures.value)
          (s.next (with_lesser taken.columns c.pass_on.new.passed)
          (handed_with taken.columns taken.passed c.pass_on.new.passed ns.items handed)
          (omega (arith, c.if-count-gt-MOST.false, c.len-count.ensures, ns.ok.0))),
    )

pub returns-clause-narrow : goal.returns-clause-narrow
returns-clause-narrow c =
    let m = c.args.model.now in
    let placed = subst (λ w. All (IsPlaced w.nodes) w.entries) c.model.view_is c.model.invariant.placed in
    let all : c.loop-step.step ≡ m.nodes = omega (arith, ap (λ w. w.nodes) c.model.view_is) in
    within_width 16 m c.loop-step.sets placed
    (neighbourhoods_of 16 m (with_lesser c.loop-step.columns c.loop-step.passed) c.loop-step.sets
    (rw all at c.loop-step.invariant.1))
