use Rattle.program_run.proofs.Common.{sym, subst, true, IsMade, AreKept, AreSteps, ties_of}
use Rattle.program_run.proofs.KeptSteps.{steps_kept}
use Rattle.program_run.proofs.made.told.Goals as goal

pub extended_text-requires-clause-made : goal.extended_text-requires-clause-made
extended_text-requires-clause-made c =
    let plan = c.args.plan.now in
    let made = c.args.made.now in
    let choices = plan.options.choices in
    let p = plan.read.problem in
    let steps : AreSteps choices p c.in-Some.steps =
    subst (AreKept true choices p) c.in-Some.is
    (steps_kept plan made (c.requires.steps c.in-Extend.is) c.requires.made) in
    subst (λ ch. IsMade ch p made.model) (sym steps.chosen)
    (ties_of plan.options.target, plan.read.variables, c.requires.made.built)
