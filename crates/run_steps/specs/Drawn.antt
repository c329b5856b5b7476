-- What the text that a number draws is read into.
use Rattle.std.specs.Prelude.{◌≡◌, ℕ, ℤ, Ok, None, Option}
use Rattle.problem_form.specs.declared.limits.Normal.{Normal}
use Rattle.problem_form.specs.Limits.{limit_fault}
use Rattle.command_words.specs.declared.commands.Format.TheVariants.{Wcnf}
use Rattle.command_words.specs.declared.commands.Slack.{Slack}
use Rattle.command_words.specs.declared.commands.Command.{Command}
use Rattle.sample_text.specs.Sample.{sample_text}
use Rattle.source_texts.specs.declared.reading.Read.{Read}
use Rattle.source_texts.specs.Sources.{bounded_read, problem_of}
use Rattle.run_steps.specs.Steps.{wanted}

-- the text is read into this problem, which passes no limit, whatever its assignments may cost
pub record IsDrawnInto (number clauses : ℕ) (normal : Normal) (read : Read) : Type 0 where
  pub from : (slack : Slack) → problem_of slack Wcnf (sample_text number clauses) ≡ Ok read
  pub within : (most : Option ℤ) → limit_fault normal (bounded_read most read).problem ≡ None

-- the problem is what a command wants of the one that the text is read into
pub record IsDrawnFor (number clauses : ℕ) (command : Command) (read : Read) : Type 0 where
  pub own : Read
  pub from : problem_of command.slack Wcnf (sample_text number clauses) ≡ Ok own
  pub given : read ≡ wanted command own
