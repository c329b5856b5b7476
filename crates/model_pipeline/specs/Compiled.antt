-- What is made of a problem: which model it is, what it promises of the problem, and which steps are
-- kept.
use Rattle.std.specs.Prelude.{ℕ}
use Rattle.chain_map.specs.declared.faults.EmbedFault.{EmbedFault}
use Rattle.form_steps.specs.declared.scope.PenaltyScope.{PenaltyScope}
use Rattle.bits_model.specs.Output.{form_of}
use Rattle.problem_form.specs.Problems.{ProblemContent}
use Rattle.problem_form.specs.Problems as problems
use Rattle.penalty_layer.specs.Penalty.{Allows}
use Rattle.model_pipeline.specs.faithful.AtLeast.{StandsAtLeast}
use Rattle.model_pipeline.specs.Models.{decoding_to}
use Rattle.model_pipeline.specs.GraphModels.{ising_of}
use Rattle.model_pipeline.specs.Extensions.{IsMadeOf}
use Rattle.model_pipeline.specs.Kept.{AreKept}
use Rattle.model_pipeline.specs.Targets.{ties_of, IsModelOn, StandsOn, CanStandOn, IsFaultOn}
use Rattle.model_pipeline.specs.declared.options.Options.{Options}
use Rattle.model_pipeline.specs.declared.made.Made.{Made}

-- what the options make of a problem with so many variables of its own
pub record IsCompiled (options : Options) (variables : ℕ) (p : ProblemContent) (made : Made)
    : Type 0 where
  -- this model, whose form has a place on what it stands on
  pub by : IsModelOn options.target options.choices options.unit variables p made.model
  pub can_stand : CanStandOn options.target (ising_of options.choices p)
  -- it stands for the problem, of which it was made
  pub stands : StandsOn options.target options.choices options.unit variables p made.model
  pub built : IsMadeOf (ties_of options.target) variables options.choices p made.model
  -- its least states are the least assignments of the problem, where the problem's penalties are
  -- those of some scope
  pub least : (scope : PenaltyScope) → Allows scope p
      → StandsAtLeast (problems.form_of p) (form_of made.model) (decoding_to p.variables made.model)
      made.model.unit made.model.figures
  pub steps : AreKept options.keep_steps options.choices p made.steps

-- this fault is why the problem's Ising form has no place on what its model should stand on
abbrev pub IsRefused : Options → ProblemContent → EmbedFault → Type 0
IsRefused options p fault =
    IsFaultOn options.target (ising_of options.choices p) fault
    × ¬ (CanStandOn options.target (ising_of options.choices p))
