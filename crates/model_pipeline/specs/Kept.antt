-- The steps of a problem's form, which are kept for the extension of assignments: what they were
-- chosen by, and the new nodes.
use Rattle.std.specs.Prelude.{◌≡◌, Bool, true, false, List, Option, Some, None}
use Rattle.problem_form.specs.declared.limits.Choices.{Choices}
use Rattle.problem_form.specs.Problems.{ProblemContent}
use Rattle.quadratization.specs.declared.new_nodes.NewNodes.{NewNodes}
use Rattle.quadratization.specs.NewNodes.{with_new_bits}
use Rattle.model_pipeline.specs.declared.made.FormSteps.{FormSteps}
use Rattle.model_pipeline.specs.Models.{terms_of}
use Rattle.model_pipeline.specs.Extensions.{low_extension}

-- the new nodes of the form that the steps make of a problem: a state of the nodes before them gets
-- the bits that stand for its long terms
abbrev pub AreNewOf : Choices → ProblemContent → NewNodes → Type 0
AreNewOf choices p n =
    (x : List Bool) → with_new_bits n x ≡ low_extension choices.high (terms_of choices.normal p) x

-- these are the steps, and the new nodes are those of the form that they make of the problem
pub record AreSteps (choices : Choices) (p : ProblemContent) (steps : FormSteps) : Type 0 where
  pub chosen : steps.choices ≡ choices
  pub nodes : AreNewOf choices p steps.new_nodes

-- the steps of the problem's form are there exactly where they are to be kept
abbrev pub AreKept : Bool → Choices → ProblemContent → Option FormSteps → Type 0
AreKept false choices p steps = steps ≡ None
AreKept true choices p None = ⊥
AreKept true choices p (Some steps) = AreSteps choices p steps
