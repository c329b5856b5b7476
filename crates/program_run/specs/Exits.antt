-- How a process ends: with the number of the status of a run.
use Rattle.std.specs.Prelude.{◌≡◌, ℕ, None, Result}
use Rattle.std.specs.declared.option.Option.{Option}
use Rattle.edge_io.specs.Counts.{Counts, none_yet}
use Rattle.edge_io.specs.Held.{NamedFiles}
use Rattle.edge_io.specs.Sinks.{Taken}
use Rattle.command_words.specs.declared.commands.Request.{Request}
use Rattle.run_steps.specs.declared.status.Status.{Status}
use Rattle.run_steps.specs.Statuses.{exit_number}
use Rattle.program_run.specs.Lines.{error_line, name_in, IsSaid}
use Rattle.program_run.specs.Runs.{IsRun}

-- what the ends of a run tell: which files the store holds and what it counted, and of the output and
-- the error output what they took and how often they failed
pub record Ends : Type 0 where
  pub held : Option NamedFiles
  pub files : Counts
  pub out : Taken
  pub out_faults : ℕ
  pub err : Taken
  pub err_faults : ℕ

-- the number is that of the status of a run on what is asked, whose line was written
abbrev pub IsNumber : Result Request ℕ → (old new : Ends) → ℕ → Type 0
IsNumber asked old new number =
    (status : Status) × (number ≡ exit_number status)
    × IsRun asked status old.held old.files new.files old.out new.out old.out_faults new.out_faults
    × IsSaid old.err new.err old.err_faults new.err_faults (error_line status (name_in asked status))

-- the same, of a run whose ends tell this
abbrev pub IsNumberOf : {A : Type 0} → Result Request ℕ → (A → Ends) → (old new : A) → ℕ → Type 0
IsNumberOf asked told old new number = IsNumber asked (told old) (told new) number

-- what an output, an error output and a store tell
abbrev pub ends_by : {O E F : Type 0} → (O → Taken) → (O → ℕ) → (E → Taken) → (E → ℕ)
    → (F → Option NamedFiles) → (F → Counts) → O × E × F → Ends
ends_by out out_faults err err_faults held files ends = record {
  held = held ends.2;
  files = files ends.2;
  out = out ends.0;
  out_faults = out_faults ends.0;
  err = err ends.1;
  err_faults = err_faults ends.1;
}

-- what an output and an error output tell, beside files that tell nothing and of which this is counted
abbrev pub sinks_by : {O E : Type 0} → (O → Taken) → (O → ℕ) → (E → Taken) → (E → ℕ) → O × E
    → Counts → Ends
sinks_by out out_faults err err_faults sinks files = record {
  held = None;
  files = files;
  out = out sinks.0;
  out_faults = out_faults sinks.0;
  err = err sinks.1;
  err_faults = err_faults sinks.1;
}

-- the number is that of a run on what is asked, over files that tell nothing and of which none was begun
abbrev pub IsRunOn : {A : Type 0} → Result Request ℕ → (A → Counts → Ends) → (old new : A) → ℕ
    → Type 0
IsRunOn asked told old new number =
    (files : Counts) × IsNumber asked (told old none_yet) (told new files) number
