-- The steps of a form that are kept for the extension of an assignment.
use Rattle.program_run.proofs.Common.{◌≡◌, subst, true, Made, Plan, AreKept, IsMadeBy}

-- what is made of a plan that keeps them has them
pub steps_kept : (plan : Plan) (made : Made) → plan.options.keep_steps ≡ true → IsMadeBy plan made
    → AreKept true plan.options.choices plan.read.problem made.steps
steps_kept plan made keeps by =
    subst (λ keep. AreKept keep plan.options.choices plan.read.problem made.steps) keeps by.steps
