-- The headline: what a text that answers a command says, however it was made.
use Rattle.std.specs.Prelude.{◌≡◌, ℕ, Bool, List, Ok, Some}
use Rattle.base.specs.Costs.{IsOf, Source}
use Rattle.bits_model.specs.Output.{Written}
use Rattle.edge_io.specs.Held.{NamedFiles}
use Rattle.command_words.specs.declared.commands.Command.{Command}
use Rattle.command_words.specs.Bounds.{most_of}
use Rattle.source_texts.specs.Sources.{bounded, form_said}
use Rattle.state_scores.specs.Scores.{IsSmall}
use Rattle.model_pipeline.specs.declared.options.ModelTarget.{ModelTarget}
use Rattle.model_pipeline.specs.Targets.{ties_of}
use Rattle.run_steps.specs.Steps.{format_in, placing}
use Rattle.program_run.specs.Answers.{IsAsked, IsExtension, IsModelFor, IsTextIn}

-- a text that is asked of a model, as P says: the source has the variables and the costs that the held
-- or drawn text says, whole costs of it are below 2 ^ 64 in size, and its bound is any, since it says
-- only where the threshold lies; the model stands where the command puts it, on a graph on the chains of
-- some number of nodes, and stands for the source whose assignments may cost at most the command's bound
pub record IsHeadline (held : NamedFiles) (command : Command)
    (P : List ℕ → Source → ModelTarget → Written → List ℕ → Type 0) (text : List ℕ) : Type 0 where
  pub written : List ℕ
  pub found : IsTextIn held command.origin written
  pub source : Source
  pub says : form_said (format_in command.origin) written ≡ Ok source.form
  pub small : (x : List Bool) → IsOf source.form x → IsSmall (source.form.cost x)
  pub base : ModelTarget
  pub placed : (placing held command.target).end ≡ Some (Ok base)
  pub nodes : ℕ
  pub model : Written
  pub stands : IsModelFor base command nodes (bounded (most_of command.bound) source) model
  pub asked : P written source base model text

-- the text is what a command asks of a model that stands there, for a source of this text
abbrev pub IsAskedAt : NamedFiles → Command → List ℕ → Source → ModelTarget → Written → List ℕ → Type 0
IsAskedAt held command written source base model text =
    IsAsked held command (IsExtension (ties_of base) command source model) written source model text

-- the text is what the command asks for
abbrev pub IsHeadlined : NamedFiles → Command → List ℕ → Type 0
IsHeadlined held command text = IsHeadline held command (IsAskedAt held command) text
