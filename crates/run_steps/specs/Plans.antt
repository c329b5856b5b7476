-- Which model a plan makes, and whether it can be made.
use Rattle.std.specs.Prelude.{◌≡◌}
use Rattle.bits_model.specs.Output.{Written}
use Rattle.ising_form.specs.Isings.{IsingContent}
use Rattle.model_pipeline.specs.GraphModels.{ising_of}
use Rattle.model_pipeline.specs.Targets.{CanStandOn, IsModelOn, StandsOn}
use Rattle.run_steps.specs.declared.plans.Plan.{Plan}

-- the Ising form that is put on chains
abbrev pub form_in : Plan → IsingContent
form_in plan = ising_of plan.options.choices plan.read.problem

-- the model of a plan
abbrev pub IsModelBy : Plan → Written → Type 0
IsModelBy plan m =
    IsModelOn plan.options.target plan.options.choices plan.options.unit plan.read.variables
    plan.read.problem m

-- a plan makes one model
abbrev pub PlansMakeOneModel : Type 0
PlansMakeOneModel = (plan : Plan) (m n : Written) → IsModelBy plan m → IsModelBy plan n → m ≡ n

-- the model stands for the problem of the plan
abbrev pub Stands : Plan → Written → Type 0
Stands plan m =
    StandsOn plan.options.target plan.options.choices plan.options.unit plan.read.variables
    plan.read.problem m

-- the form of the plan has a place where it is put
abbrev pub CanStand : Plan → Type 0
CanStand plan = CanStandOn plan.options.target (form_in plan)
