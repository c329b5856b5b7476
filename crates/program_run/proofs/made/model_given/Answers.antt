use Rattle.program_run.proofs.MadeModels.{modelled}
use Rattle.program_run.proofs.made.model_given.Goals as goal

pub returns-clause-modelled : goal.returns-clause-modelled
returns-clause-modelled c =
    let kept = c.into_problem_and_options-problem.ensures in
    modelled c.args.plan c.in_ok-model.field-0
    (rw (kept.problem, kept.options) at c.in_ok-model.ensures.made)
