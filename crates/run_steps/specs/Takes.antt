-- What a function does that takes files.
use Rattle.std.specs.Prelude.{◌≡◌, ℕ, List, Result, Ok, Err, OnOk, IfErr}
use Rattle.std.specs.declared.option.Option.{Option}
use Rattle.edge_io.specs.Counts.{Counts}
use Rattle.edge_io.specs.Held.{NamedFiles, WhereTold}
use Rattle.whole_text.specs.declared.faults.TextAnswer.{TextAnswer}
use Rattle.whole_text.specs.declared.faults.TextAnswer.TheVariants as answers
use Rattle.command_words.specs.declared.names.Which.{Which}
use Rattle.command_words.specs.declared.commands.Command.{Command}
use Rattle.command_words.specs.Names.{name_of}
use Rattle.run_steps.specs.declared.status.Status.{Status}
use Rattle.run_steps.specs.declared.status.Status.TheVariants.{BadText, NoMemory}
use Rattle.run_steps.specs.Steps.{Steps, Meets}
use Rattle.run_steps.specs.Causes.{AreRead, AreRefused, IsReadTo, IsRefusedBy, MeetsHeld}

-- what a text of a file is read into, or the status of its fault
abbrev pub judged : {X : Type 0} → Which → Result X TextAnswer → Result X Status
judged which (Ok x) = Ok x
judged which (Err (answers.Bad fault)) = Err (BadText which fault.kind fault.line)
judged which (Err answers.NoMemory) = Err NoMemory

-- what a function does that takes the file of this name alone: what it returned, seen by view, is what
-- the steps give of what is held, and the file was read to its end or, where it refused, so far as its
-- status says
pub record TakesOne {X A : Type 0} (told later : Option NamedFiles) (which : Which) (name : List ℕ)
    (view : X → A) (result : Result X Status) (steps : NamedFiles → Steps A) (old new : Counts)
    : Type 0 where
  pub step : WhereTold told (λ held. Meets view result (steps held))
  pub held : later ≡ told
  pub passed : OnOk result (IsReadTo name 1 old new)
  pub refused : IfErr result (λ status. IsRefusedBy which name status old new)

-- what a function does that takes these files by their names, one after another
pub record Takes {X A : Type 0} (told later : Option NamedFiles) (name : Which → List ℕ)
    (files : List Which) (view : X → A) (result : Result X Status) (steps : NamedFiles → Steps A)
    (old new : Counts) : Type 0 where
  pub step : MeetsHeld told files view result steps
  pub held : later ≡ told
  pub passed : OnOk result (AreRead name files old new)
  pub refused : IfErr result (λ status. AreRefused name files status old new)

-- the same of a store that tells and counts what it does, before and after: of one file
abbrev pub HasTakenOne : {S X A : Type 0} → (S → Option NamedFiles) → (S → Counts) → (old new : S)
    → Which → List ℕ → (X → A) → Result X Status → (NamedFiles → Steps A) → Type 0
HasTakenOne told counts old new which name view result steps =
    TakesOne (told old) (told new) which name view result steps (counts old) (counts new)

-- and of these files of a command
abbrev pub HasTaken : {S X A : Type 0} → (S → Option NamedFiles) → (S → Counts) → (old new : S)
    → Command → List Which → (X → A) → Result X Status → (NamedFiles → Steps A) → Type 0
HasTaken told counts old new command files view result steps =
    Takes (told old) (told new) (name_of command) files view result steps (counts old) (counts new)
