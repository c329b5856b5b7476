use Rattle.run_steps.specs.Steps.{solving}
use Rattle.program_run.proofs.Lemmas.{arith, nat_tests, [], None, sym, subst, form_of, IsFirstLeast, InOrder, from_last, first_from_last, last_gives, own_variables, narrow_ends, unsolved_is, unsolved_usually, solved_some}
use Rattle.program_run.proofs.made.solved.Goals as goal

pub returns-in-Err-clause-step : goal.returns-in-Err-clause-step
returns-in-Err-clause-step c = grind (arith, nat_tests, unsolved_usually)

pub returns-in-Err-clause-refusal : goal.returns-in-Err-clause-refusal
returns-in-Err-clause-refusal c = rw c.unsolved.ensures (unsolved_is c.in-Err.answer)

pub solved_text-requires-clause-variables : goal.solved_text-requires-clause-variables
solved_text-requires-clause-variables c =
    own_variables c.args.plan.now c.args.model.now c.requires.modelled

pub returns-clause-step : goal.returns-clause-step
returns-clause-step c =
    let m = c.args.model.now in
    last_gives c.args.plan.now (solving [] None) m (InOrder (from_last m.nodes)) c.requires.modelled
    (narrow_ends m c.in-Ok.ensures.narrow)

pub returns-clause-answer : goal.returns-clause-answer
returns-clause-answer c =
    let m = c.args.model.now in record {
      model = m;
      made = c.requires.modelled;
      last = InOrder (from_last m.nodes);
      read = narrow_ends m c.in-Ok.ensures.narrow;
      told = c.in_ok-text.ensures (from_last m.nodes) (first_from_last (form_of m) c.deref.result.now
          (subst (IsFirstLeast (form_of m)) (sym c.deref.ensures.value) c.in-Ok.ensures.state));
    }

pub returns-clause-some : goal.returns-clause-some
returns-clause-some c =
    let m = c.args.model.now in
    solved_some (from_last m.nodes) c.args.plan.now.read m _ (c.in_ok-text.ensures (from_last m.nodes)
    (first_from_last (form_of m) c.deref.result.now
    (subst (IsFirstLeast (form_of m)) (sym c.deref.ensures.value) c.in-Ok.ensures.state)))
