use Rattle.cut_chains.proofs.Common.{◌≡◌, ◌<◌, ◌+◌, ◌-◌, length, refl, ap, subst, ◌∙◌, arith, length-set}
use Rattle.cut_chains.proofs.SinkSteps.{Sinks, starts, giver_below, giver_known, parent_below, step_fits, step_next, step_others, ends_below, ends_all}
use Rattle.cut_chains.proofs.sums.sink.Goals as goal

pub loop-i-init : goal.loop-i-init
loop-i-init c = record {
  sized = refl;
  sinking = λ t. starts c.args.up.now c.args.sums.now c.args.order.now c.args.sums.now t;
  others = λ t q out. refl;
}

pub bounds-up-qubit : goal.bounds-up-qubit
bounds-up-qubit c =
    giver_known _ _ _ _ c.requires.able c.loop-i.invariant.sized (c.loop-i.i - 1) (omega arith)

pub give-requires-clause-from : goal.give-requires-clause-from
give-requires-clause-from c =
    giver_below _ _ _ _ c.requires.able c.loop-i.invariant.sized (c.loop-i.i - 1) (omega arith)

pub give-requires-clause-to : goal.give-requires-clause-to
give-requires-clause-to c =
    parent_below _ _ _ _ c.requires.able c.loop-i.invariant.sized (c.loop-i.i - 1) (omega arith)

pub give-requires-clause-small : goal.give-requires-clause-small
give-requires-clause-small c =
    let last : c.loop-i.i ≡ c.loop-i.i - 1 + 1 = omega arith in
    let sinking = c.loop-i.invariant.sinking c.requires.able in
    step_fits _ _ _ _ c.requires.able c.loop-i.invariant.sized (c.loop-i.i - 1) (omega arith)
    (rw last at sinking)

pub loop-i-preserved : goal.loop-i-preserved
loop-i-preserved c =
    let up = c.args.up.now in
    let sums = c.args.sums.now in
    let order = c.args.order.now in
    let xs = c.loop-i.sums in
    let a = c.loop-i.i - 1 in
    let given = c.give.ensures in
    let within : a < length order = omega arith in
    let last : c.loop-i.i ≡ a + 1 = omega arith in
    record {
      sized = ap length given ∙ length-set xs _ _ ∙ c.loop-i.invariant.sized;
      sinking = λ t. rw given (step_next up sums order xs t c.loop-i.invariant.sized a within
          (subst (Sinks up sums order xs t xs) last (c.loop-i.invariant.sinking t)));
      others = λ t q out.
          let step = step_others up sums order xs t c.loop-i.invariant.sized a within q out in
          cc (given, c.loop-i.invariant.others t q out);
    }

pub returns-clause-below : goal.returns-clause-below
returns-clause-below c t q in' =
    let none : c.loop-i.i ≡ 0 = omega arith in
    let sinking = c.loop-i.invariant.sinking t in
    ends_below _ _ _ c.loop-i.sums t (rw none at sinking) q in'

pub returns-clause-all : goal.returns-clause-all
returns-clause-all c t =
    let none : c.loop-i.i ≡ 0 = omega arith in
    let sinking = c.loop-i.invariant.sinking t in ends_all _ _ _ c.loop-i.sums t (rw none at sinking)
