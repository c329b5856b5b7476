-- One run: its status, and what its files and its output tell of it.
use Rattle.std.specs.Prelude.{ℕ, IfOk, Option, Result}
use Rattle.edge_io.specs.Counts.{Counts}
use Rattle.edge_io.specs.Held.{NamedFiles}
use Rattle.edge_io.specs.Sinks.{Taken}
use Rattle.command_words.specs.declared.commands.Request.{Request}
use Rattle.run_steps.specs.Causes.{WhereHeld}
use Rattle.run_steps.specs.declared.status.Status.{Status}
use Rattle.run_steps.specs.Statuses.{IsUsageOf, OnDone, OnWriting, CountsReadFault, CountsWriteFault}
use Rattle.program_run.specs.Answers.{files_asked, Completes, Delivers, IsAnswer, WritesText}
use Rattle.program_run.specs.Headline.{IsHeadlined}
use Rattle.program_run.specs.Outcome.{AreFilesAsked, MeetsOutcome}

-- what a run comes to on what its words ask for: its status, by what the store of files holds and
-- counted before and after, and by what the output took and how often it failed before and after
pub record IsRun (asked : Result Request ℕ) (status : Status) (told : Option NamedFiles)
    (counted since : Counts) (old new : Taken) (before now : ℕ) : Type 0 where
  -- a usage fault comes exactly where the words ask for nothing
  pub usage : IsUsageOf status asked
  -- why a file was not read, how many were begun, and that no more was read
  pub files : IfOk asked (λ request. AreFilesAsked request status counted since)
  -- each fault is counted, and comes to its status
  pub read_fault : CountsReadFault status counted.faults since.faults
  pub write_fault : CountsWriteFault status before now
  -- of what the store holds, or of whatever it may hold where no file is taken
  pub outcome : WhereHeld told (files_asked asked) (λ held. MeetsOutcome held asked status)
  pub complete : Completes asked told status
  -- the headline: what was written is what the words ask for, however it was made
  pub headline : OnWriting status (Delivers IsHeadlined asked told status old new)
  -- and it is the answer whole
  pub answered : OnWriting status (Delivers IsAnswer asked told status old new)
  pub written : OnDone status (WritesText old new)
