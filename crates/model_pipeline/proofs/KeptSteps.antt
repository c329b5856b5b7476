-- The steps of a form, where they are kept.
use Rattle.model_pipeline.proofs.Common.{◌≡◌, Bool, true, false, sym, subst, Choices, ProblemContent}
use Rattle.std.specs.Bool.{then_some}
use Rattle.std.specs.Prelude.{Option}
use Rattle.model_pipeline.specs.Kept.{AreKept, AreSteps}
use Rattle.model_pipeline.specs.declared.made.FormSteps.{FormSteps}

pub kept_as : (keep : Bool) (choices : Choices) (p : ProblemContent) (steps : FormSteps)
    (r : Option FormSteps) → r ≡ then_some keep steps → AreSteps choices p steps
    → AreKept keep choices p r
kept_as true choices p steps r is are = subst (AreKept true choices p) (sym is) are
kept_as false choices p steps r is are = is
