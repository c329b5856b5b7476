-- Why the model of a plan is not made.
use Rattle.std.specs.Prelude.{⊤}
use Rattle.basic_solve.specs.declared.answer.SolveAnswer.{SolveAnswer}
use Rattle.basic_solve.specs.declared.answer.SolveAnswer.TheVariants as solving
use Rattle.run_steps.specs.declared.plans.Plan.{Plan}
use Rattle.ising_form.specs.Isings.{IsingContent}
use Rattle.model_pipeline.specs.declared.options.ModelTarget.{ModelTarget}
use Rattle.model_pipeline.specs.Targets.{CanStandOn, IsFaultOn}
use Rattle.run_steps.specs.Plans.{form_in}
use Rattle.run_steps.specs.declared.status.Status.{Status}
use Rattle.run_steps.specs.declared.status.Status.TheVariants.{NotEmbedded, TooWide, NoMemory}

-- the status where a model isn't solved
abbrev pub unsolved : SolveAnswer → Status
unsolved (solving.TooWide node width) = TooWide node width
unsolved solving.NoMemory = NoMemory

-- there is no model of a form: it cannot be embedded for this fault, or memory was wanting
abbrev pub IsUnembeddedOn : ModelTarget → IsingContent → Status → Type 0
IsUnembeddedOn base form (NotEmbedded fault) = IsFaultOn base form fault × ¬ (CanStandOn base form)
IsUnembeddedOn base form NoMemory = ⊤
IsUnembeddedOn base form status = ⊥

-- the plan has no model
abbrev pub IsUnembedded : Plan → Status → Type 0
IsUnembedded plan status = IsUnembeddedOn plan.options.target (form_in plan) status
