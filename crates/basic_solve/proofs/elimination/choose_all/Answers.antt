use Rattle.basic_solve.proofs.Common.{◌-◌, ◌∙◌, ◌∷◌, ◌++◌, [], map, All, ap, sym, arith, subst, map-append, IsPlaced, weight_total, all_bits, IsHandedOn}
use Rattle.basic_solve.proofs.Eliminated.{Eliminated, NextNode, eliminated_at_first, next_node}
use Rattle.basic_solve.proofs.elimination.choose_all.Given.{Over}
use Rattle.basic_solve.proofs.elimination.choose_all.Goals.{After-deref-in-loop-step}
use Rattle.basic_solve.proofs.elimination.choose_all.Goals as goal

pub loop-step-init : goal.loop-step-init
loop-step-init g c =
    rw (c.requires.none, c.requires.waiting)
    (eliminated_at_first c.args.model.now c.args.sets.now c.args.held.now c.requires.sets c.requires.held)

-- the node that this step eliminates
node : (g : Over) (c : After-deref-in-loop-step g)
    → NextNode c.args.model.now c.model.inside.kind c.args.sets.now c.loop-step.step
    (map all_bits c.loop-step.choices) c.take_last.new.self c.deref.result.now
    c.take_last-in-loop-step.new.self c.deref-in-loop-step.result.now c.list-set.result.now
    (c.model.inside.nodes - 1 - c.loop-step.step)
node g c =
    next_node _ _ c.requires.sets _ _ _ _ _ _
    (rw (c.in_ok-take_last.ensures, c.take_last-in-loop-step.ensures, ← c.deref.ensures.value, ← c.deref-in-loop-step.ensures.value)
    at c.loop-step.invariant)
    _ c.list-set.ensures.listed _
    (omega (arith, ap (λ w. w.nodes) c.model.view_is, c.loop-step-test.true))
    _ (ap (λ w. w.kind) c.model.view_is)
    (subst (λ w. All (IsPlaced w.nodes) w.entries) c.model.view_is c.model.invariant.placed)

pub settle-requires : goal.settle-requires
settle-requires g c =
    let at = node g (goal.at.settle-requires g c).After-deref-in-loop-step in
    record {
      own = at.node.entries;
      members = at.node.leads;
      passed = at.node.passed;
      few = at.few;
      light = omega (arith, at.small, c.model.invariant.light, ap (λ w. weight_total w.entries) c.model.view_is);
      small = omega (arith, at.small, c.requires.small);
    }

pub pass_table-requires : goal.pass_table-requires
pass_table-requires g c =
    (node g (goal.at.pass_table-requires g c).After-deref-in-loop-step).within _ _
    c.in_ok-settle.ensures

pub loop-step-preserved : goal.loop-step-preserved
loop-step-preserved g c =
    let pushed = ap (map all_bits) c.in_ok-push.ensures.pushed
    ∙ map-append all_bits c.loop-step.choices (c.deref-in-loop-step-2.result.now ∷ [])
    ∙ ap (λ b. map all_bits c.loop-step.choices ++ all_bits b ∷ []) c.deref-in-loop-step-2.ensures.value in
    let handed = subst
    (λ vs. IsHandedOn (record { nodes = c.list-set.result.now; values = vs }) c.take_last-in-loop-step.new.self c.pass_table.new.waiting)
    (λ i. map g.T.Number.value (c.replace-values.ensures.value i).items) c.in_ok-pass_table.ensures in
    subst (Eliminated _ _ _ _ _) (sym pushed)
    ((node g (goal.at.loop-step-preserved g c).After-deref-in-loop-step).next _ _ c.in_ok-settle.ensures _ handed)
