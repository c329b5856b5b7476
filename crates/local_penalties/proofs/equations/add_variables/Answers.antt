use Rattle.local_penalties.proofs.Common.{rules}
use Rattle.local_penalties.proofs.LocalSteps.{variables-step}
use Rattle.local_penalties.proofs.equations.add_variables.Goals as goal

pub loop-literal-preserved : goal.loop-literal-preserved
loop-literal-preserved c =
    variables-step c.in-Some.literal _ _ _ _ _ _ c.in-Some.ensures.steps (search rules) c.in_ok-push.ensures.items c.loop-literal.invariant
